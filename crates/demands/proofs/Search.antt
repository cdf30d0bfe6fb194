-- What the halving with the test "entry at most v" says of any table, sorted or not: its own two probes at the end.
use Prim.Native.Nat.{ℕ, ◌-◌, ◌≤◌, ◌<◌}
use mathlib.Core.List.{List}
use lib.ListN.{get_or}
use borrow.Author.Tests.{leb-true, leb-false}
use Rattle.rules.specs.Reading.{halving, at_most}
use Rattle.laws.proofs.Halving.{halving_edge}

module _ (table : List ℕ) (n v : ℕ) where
  -- its answer
  abbrev k : ℕ
  k = (halving (at_most table v) n).number

  -- it is at most n
  pub upto_within : k ≤ n
  upto_within = (halving_edge (at_most table v) n).to

  -- the entry before it is at most v
  pub upto_last : 0 < k → get_or table (k - 1) 0 ≤ v
  upto_last h = leb-true (get_or table (k - 1) 0) v ((halving_edge (at_most table v) n).last h)

  -- the entry at it is above v
  pub upto_next : k < n → v < get_or table k 0
  upto_next h = leb-false (get_or table k 0) v ((halving_edge (at_most table v) n).next h)
