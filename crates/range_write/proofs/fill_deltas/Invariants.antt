-- The invariant: the first i sums are put, and the next delta starts i widths after the first.
use Prim.Native.Nat.{◌-◌, ◌*◌, ◌≤◌}
use mathlib.Core.Path.{◌≡◌}
use lib.ListN.{length}
use Rattle.range_write.specs.Puts.{puts, sums}
use Rattle.range_write.proofs.fill_deltas.Given as goal

abbrev pub invariant-deltas : goal.invariant-deltas
invariant-deltas l = record {
  within : l.i ≤ length l.out;
  place : l.at ≡ l.i * l.width;
  put : l.out ≡ puts (sums l.bytes l.base l.width) 0 l.i l.initial.out;
}

abbrev pub decreases-deltas : goal.decreases-deltas
decreases-deltas l = length l.initial.out - l.i
