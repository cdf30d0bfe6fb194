-- The invariant: the first i sums are put, and the next delta starts i widths after the first.
use mathlib.Core.Path.{◌≡◌}
use Prim.Native.Nat.{◌+◌}
use native.Mathlib.Omega.{arith}
use lib.ListN.{length-set}
use Rattle.range_write.specs.Puts.{sums}
use Rattle.range_write.proofs.Writing.{puts_none, puts_more, next_place}
use Rattle.range_write.proofs.fill_deltas.Goals as goal
use Rattle.range_write.proofs.fill_deltas.Goals.{After-delta_at}

-- the sum is the one to put
sum : (c : After-delta_at) → c.args.base + c.delta_at.result ≡ sums c.args.bytes.now c.args.base c.args.width c.deltas.i
sum c = let e = c.delta_at.ensures in rw (e, c.deltas.invariant.place)

pub deltas-init : goal.deltas-init
deltas-init c = record { within = omega arith; place = omega arith; put = puts_none _ _ _ }

pub overflow_add-out : goal.overflow_add-out
overflow_add-out c = omega (arith, sum c, c.requires.run c.deltas.i (omega arith))

pub deltas-preserved : goal.deltas-preserved
deltas-preserved c =
    let i = c.deltas.invariant in
    let a = c.args in
    record {
      within = simp length-set (omega arith);
      place = rw i.place (next_place c.deltas.i a.width);
      put = rw (sum (goal.at.deltas-preserved c).After-delta_at, i.put) (puts_more (sums a.bytes.now a.base a.width) 0 c.deltas.i c.deltas.i a.out.now (omega arith));
    }
