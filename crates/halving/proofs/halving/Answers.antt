-- The invariant: whatever the test tells, halving from here gives what halving from the start gives.
use native.Mathlib.Omega.{arith}
use mathlib.Core.Path.{sym}
use Rattle.laws.proofs.Halving.{halfway_up, halfway_down, halfway_done}
use Rattle.halving.proofs.halving.Goals as goal

pub loop-high-preserved-then-test : goal.loop-high-preserved-then-test
loop-high-preserved-then-test g c =
    let i = c.loop-high.invariant in
    (omega arith, omega arith, λ t h. halfway_up (i.2 t h) (omega arith) (sym (h _ _ (omega arith) c.if-test.ensures)))

pub loop-high-preserved : goal.loop-high-preserved
loop-high-preserved g c =
    let i = c.loop-high.invariant in
    (omega arith, omega arith, λ t h. halfway_down (i.2 t h) (omega arith) (sym (h _ _ (omega arith) c.if-test.ensures)))

pub returns : goal.returns
returns g c = λ t h. halfway_done (c.loop-high.invariant.2 t h) c.if-high-low.true
