-- The values of a range, and how they go into the output one after another.
use Rattle.std.specs.Prelude.{ℕ, zero, suc, ◌+◌, ◌*◌, List, ◌≡◌, eqb, set}
use Rattle.rules.specs.Words.{when, Answer, value, refused}
use Rattle.rules.specs.Record.{Index}
use Rattle.rules.specs.Push.{delta_at}
use Rattle.rules.specs.Reading.{read_in, get_rule}

-- the value of an answer, where it is one
abbrev pub value_of : Answer ℕ → ℕ
value_of (value v) = v
value_of (refused e) = 0

-- the deltas of w bytes, each added to the base
abbrev pub sums : List ℕ → (base w : ℕ) → ℕ → ℕ
sums bytes base w i = base + delta_at bytes (i * w) w

-- the values from position p on, read in segment k
abbrev pub in_segment : Index → ℕ → ℕ → ℕ → ℕ
in_segment x k p i = value_of (read_in x k (p + i))

-- the values from position a on
abbrev pub gets : Index → ℕ → ℕ → ℕ
gets x a i = value_of (get_rule x (a + i))

-- the output with the first n numbers of f put in from entry `from` on
unfoldable pub puts : (ℕ → ℕ) → (from n : ℕ) → List ℕ → List ℕ
puts f from zero out = out
puts f from (suc n) out = set (puts f from n out) (from + n) (f n)

-- the base is put into the first entry where p is its position; r is the next position to fill
pub record Based (start base p r : ℕ) (out left : List ℕ) : Type 0 where
  pub next : r ≡ when (eqb p start) (p + 1) p
  pub put : left ≡ when (eqb p start) (set out 0 base) out
