-- The invariant: the values of a..p are put, and nothing else.
use Prim.Native.Nat.{◌-◌, ◌≤◌}
use mathlib.Core.Path.{◌≡◌}
use Rattle.rules.specs.Refusals.{index_of}
use Rattle.range_write.specs.Puts.{gets, puts}
use Rattle.range_write.proofs.range_write.Given as goal

abbrev pub invariant-segments : goal.invariant-segments
invariant-segments l = record {
  from : l.a ≤ l.p;
  within : l.p ≤ l.finder.limit;
  put : l.out ≡ puts (gets (index_of l.x.index.now) l.a) 0 (l.p - l.a) l.initial.out;
}

abbrev pub decreases-segments : goal.decreases-segments
decreases-segments l = l.finder.limit - l.p
