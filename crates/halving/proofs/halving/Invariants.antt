-- The invariant: whatever the test tells, halving from here gives what halving from the start gives.
use Prim.Native.Nat.{ℕ, ◌-◌, ◌≤◌}
use mathlib.Core.Bool.{Bool}
use Rattle.halving.specs.Tests.{Tells}
use Rattle.laws.proofs.Halving.{Halfway}
use Rattle.halving.proofs.halving.Given as goal

abbrev pub invariant-loop-high : goal.invariant-loop-high
invariant-loop-high g l = (l.low ≤ l.high) × (l.high ≤ l.n) × ((t : ℕ → Bool) → Tells (goal.F-post g l.test) t l.n → Halfway t l.n l.low l.high)

abbrev pub decreases-loop-high : goal.decreases-loop-high
decreases-loop-high g l = l.high - l.low
