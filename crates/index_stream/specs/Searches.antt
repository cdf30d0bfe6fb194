-- The test "entry below v"; and what a search says that also tells how long its answer stays.
use Rattle.std.specs.Prelude.{ℕ, zero, suc, ◌+◌, ◌-◌, ◌≤◌, ◌<◌, min, Bool, true, false, List, ◌≡◌, ltb, get_or}
use Rattle.rules.specs.Reading.{middle, halving, at_most}
use Rattle.index_stream.specs.declared.Found.{Found}

-- the test "entry below v"
abbrev pub below : List ℕ → ℕ → ℕ → Bool
below table v i = ltb (get_or table i 0) v

-- the least entry that the halving for v turns down from low and high on, or the limit; in at most `turns` turns
unfoldable pub turned_from : ℕ → List ℕ → ℕ → ℕ → ℕ → ℕ → ℕ
turned_from zero table v low high limit = limit
turned_from (suc turns) table v low high limit =
    elim (ltb low high) [
      | true ↦ elim (at_most table v (middle low high)) [
        | true ↦ turned_from turns table v (middle low high + 1) high limit
        | false ↦ turned_from turns table v low (middle low high) (min (get_or table (middle low high) 0) limit)
      ]
      | false ↦ limit
    ]

-- the same, to the halving's end
unfoldable pub turning : List ℕ → ℕ → ℕ → ℕ → ℕ → ℕ
turning table v low high limit = turned_from (high - low) table v low high limit

-- the least of n entries that the halving for v turns down, or the limit
abbrev pub turned : List ℕ → ℕ → ℕ → ℕ → ℕ
turned table v n limit = turning table v 0 n limit

-- halving over the first n entries finds this number for every value from v up to `until`, not including it
abbrev pub Stays : List ℕ → (n v number until : ℕ) → Type 0
Stays table n v number until = (u : ℕ) → v ≤ u → u < until → number ≡ (halving (at_most table u) n).number

-- a number found for v, and the value up to which it stays, at most the limit
pub record Finds (table : List ℕ) (n v limit : ℕ) (r : Found) : Type 0 where
  pub after : v < r.until
  pub within : r.until ≤ limit
  pub stays : Stays table n v r.number r.until
