-- The early returns refute an order; the two last lines are && chains, each equal to the list of tests because each gives the other.
use native.Mathlib.Omega.{arith}
use Prim.Native.Nat.{◌+◌, ◌-◌}
use mathlib.Core.Bool.{◌&&◌}
use lib.Dec.{eqb, leb}
use borrow.Author.Tests.{eqb-true, eq-eqb, leb-true, le-leb}
use Rattle.rules.specs.Record.{state_tests}
use Rattle.laws.proofs.Tests.{same_test, both, taken, facts_of}
use Rattle.laws.proofs.Counts.{state_orders_lem}
use Rattle.tables.proofs.state_holds.Goals as goal

pub returns-then-segments-eq0 : goal.returns-then-segments-eq0
returns-then-segments-eq0 c =
    let s = c.args.s in
    same_test _ _
    (λ t.
    let b = both (eqb s.length 0 && eqb s.widths 0) (eqb s.used 0) t in
    let a = both (eqb s.length 0) (eqb s.widths 0) b.0 in
    let n = eqb-true s.length 0 a.0 in let w = eqb-true s.widths 0 a.1 in let u = eqb-true s.used 0 b.1 in
    taken _ _ _ (omega arith))
    (λ t.
    let o = state_orders_lem s (facts_of (state_tests s) t) in
    rw (eq-eqb s.length 0 (omega arith), eq-eqb s.widths 0 (omega arith), eq-eqb s.used 0 (omega arith)))

pub returns : goal.returns
returns c =
    let s = c.args.s in
    same_test _ _
    (λ t.
    let c3 = both (leb (s.segments - 1) s.widths && leb s.widths s.segments && leb s.segments s.length) (leb s.length (s.segments + s.used)) t in
    let b = both (leb (s.segments - 1) s.widths && leb s.widths s.segments) (leb s.segments s.length) c3.0 in
    let a = both (leb (s.segments - 1) s.widths) (leb s.widths s.segments) b.0 in
    let i = leb-true (s.segments - 1) s.widths a.0 in let j = leb-true s.widths s.segments a.1 in
    let k = leb-true s.segments s.length b.1 in let l = leb-true s.length (s.segments + s.used) c3.1 in
    taken _ _ _ (omega arith))
    (λ t.
    let o = state_orders_lem s (facts_of (state_tests s) t) in
    rw (le-leb (s.segments - 1) s.widths (omega arith), le-leb s.widths s.segments (omega arith), le-leb s.segments s.length (omega arith), le-leb s.length (s.segments + s.used) (omega arith)))
