-- The invariant: for every u from v up to `until`, halving from here gives what halving from the start gives.
use Prim.Native.Nat.{ℕ, ◌-◌, ◌≤◌, ◌<◌}
use mathlib.Core.Path.{◌≡◌}
use lib.ListN.{length}
use Rattle.rules.specs.Reading.{at_most}
use Rattle.laws.proofs.Halving.{Halfway}
use Rattle.index_stream.specs.Searches.{turning, turned}
use Rattle.index_stream.proofs.bisect_right_until.Given as goal

abbrev pub invariant-loop-high : goal.invariant-loop-high
invariant-loop-high l = (l.low ≤ l.high) × (l.high ≤ length l.table) × (l.v < l.until) × (l.until ≤ l.limit) × ((u : ℕ) → l.v ≤ u → u < l.until → Halfway (at_most l.table u) (length l.table) l.low l.high)
    × (turning l.table l.v l.low l.high l.until ≡ turned l.table l.v (length l.table) l.limit)

abbrev pub decreases-loop-high : goal.decreases-loop-high
decreases-loop-high l = l.high - l.low
