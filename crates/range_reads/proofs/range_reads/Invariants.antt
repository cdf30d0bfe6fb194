-- The invariant of both loops: every position before p gives a value.
use Prim.Native.Nat.{◌-◌, ◌≤◌}
use Rattle.rules.specs.Refusals.{index_of}
use Rattle.range_reads.specs.Values.{Values}
use Rattle.range_reads.proofs.range_reads.Given as goal

abbrev pub invariant-deltas : goal.invariant-deltas
invariant-deltas l = record { within : l.p ≤ l.until; from : l.initial.p ≤ l.p; good : Values (index_of l.x.index.now) l.a l.p }

abbrev pub decreases-deltas : goal.decreases-deltas
decreases-deltas l = l.until - l.p

abbrev pub invariant-segments : goal.invariant-segments
invariant-segments l = record { from : l.a ≤ l.p; within : l.p ≤ l.finder.limit; good : Values (index_of l.x.index.now) l.a l.p }

abbrev pub decreases-segments : goal.decreases-segments
decreases-segments l = l.finder.limit - l.p
