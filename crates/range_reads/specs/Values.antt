-- Which reads give a value: one, each from a position up to another, and those that are sure.
use Rattle.std.specs.Prelude.{ℕ, ◌+◌, ◌*◌, ◌^◌, ◌≤◌, ◌<◌, Bool, true, false, List, length, ◌≡◌}
use Rattle.rules.specs.Words.{Answer, value, refused}
use Rattle.rules.specs.Record.{Index}
use Rattle.rules.specs.Push.{delta_at}
use Rattle.rules.specs.Reading.{read_in, get_rule}

-- an answer that is a value
abbrev pub is_value : {A : Type 0} → Answer A → Bool
is_value (value v) = true
is_value (refused e) = false

-- each position from p up to `to`, not including it, read in segment k, gives a value
abbrev pub ValuesIn : Index → ℕ → ℕ → ℕ → Type 0
ValuesIn x k p to = (q : ℕ) → p ≤ q → q < to → is_value (read_in x k q) ≡ true

-- each position from a up to `to`, not including it, gives a value
abbrev pub Values : Index → ℕ → ℕ → Type 0
Values x a to = (q : ℕ) → a ≤ q → q < to → is_value (get_rule x q) ≡ true

-- r is from p to `until`, and the reads before it are sure
pub record Sure (x : Index) (k p until r : ℕ) : Type 0 where
  pub from : p ≤ r
  pub to : r ≤ until
  pub reads : ValuesIn x k p r

-- the bytes have n deltas of w bytes, and each makes a sum with the base that fits 64 bits
abbrev pub Run : List ℕ → (base w n : ℕ) → Type 0
Run bytes base w n = (i : ℕ) → i < n → (i * w + w ≤ length bytes) × (base + delta_at bytes (i * w) w < 2 ^ 64)
