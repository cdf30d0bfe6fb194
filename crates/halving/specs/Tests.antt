-- What a test answers, as a function.
use Rattle.std.specs.Prelude.{ℕ, Bool, ◌<◌, ◌≡◌}

-- of each of the first n indexes the test answers what t says
abbrev pub Tells : (ℕ → Bool → Type 0) → (ℕ → Bool) → ℕ → Type 0
Tells post t n = (i : ℕ) (b : Bool) → i < n → post i b → b ≡ t i
