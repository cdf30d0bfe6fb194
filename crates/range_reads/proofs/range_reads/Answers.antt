-- Every position before p gives a value. What a search found, it finds for each position up to `until`.
use Prim.Native.Nat.{◌-◌}
use mathlib.Core.Path.{sym, ap, ◌∙◌}
use native.Mathlib.Omega.{arith}
use Rattle.rules.specs.Refusals.{index_of}
use Rattle.range_reads.specs.Values.{is_value}
use Rattle.range_reads.proofs.Deciding.{Segment, none_found, some_found, values_on, values_more, reads_good, reads_bad}
use Rattle.range_reads.proofs.range_reads.Goals as goal
use Rattle.range_reads.proofs.range_reads.Goals.{Else-number-eq0}

-- the segment that the search found
segment : (c : Else-number-eq0) → Segment (index_of c.args.x.index.now) c.segments.p c.find-found.result.until (c.find-found.result.number - 1)
segment c = some_found (index_of c.args.x.index.now) c.args.x.counts _ c.requires.in_use c.segments.p _ _ c.find-found.ensures c.requires.within c.if-number-eq0.false

pub segment-g-requires : goal.segment-g-requires
segment-g-requires c = (segment (goal.at.segment-g-requires c).Else-number-eq0).there

pub sure_until-p-requires-clause-after : goal.sure_until-p-requires-clause-after
sure_until-p-requires-clause-after c =
    let e = c.segment-g.ensures in
    rw (e.of, e.number) ((segment (goal.at.sure_until-p-requires-clause-after c).Else-number-eq0).begins)

pub deltas-init : goal.deltas-init
deltas-init c =
    let e = c.segment-g.ensures in
    let g = rw (e.of, e.number) at c.sure_until-p.ensures in
    record { within = g.to; from = omega arith; good = values_on _ _ _ _ (segment (goal.at.deltas-init c).Else-number-eq0) _ _ g c.segments.invariant.good }

pub deltas-preserved : goal.deltas-preserved
deltas-preserved c =
    let e = c.segment-g.ensures in
    let i = c.deltas.invariant in
    let g = (segment (goal.at.deltas-preserved c).Else-number-eq0).gets c.deltas.p (omega (arith, c.sure_until-p.ensures.from)) c.if-until-p.false in
    record { within = omega arith; from = omega arith; good = values_more _ _ _ i.good (ap is_value (g ∙ sym (rw (e.of, e.number) at c.in-Ok.ensures))) }

pub returns-then-finder-p : goal.returns-then-finder-p
returns-then-finder-p c =
    let p = c.segments.invariant in
    sym (reads_good _ _ _ (λ q l h. p.good q l (omega arith)))

pub returns-then-number-eq0 : goal.returns-then-number-eq0
returns-then-number-eq0 c =
    let i = c.segments.invariant in
    let g = none_found (index_of c.args.x.index.now) c.args.x.counts _ c.requires.in_use c.segments.p _ _ c.find-found.ensures c.requires.within c.if-number-eq0.true in
    sym (reads_bad _ _ _ c.segments.p i.from (omega arith) (ap is_value g))

pub returns-in_default : goal.returns-in_default
returns-in_default c =
    let e = c.segment-g.ensures in
    let i = c.segments.invariant in
    let w = c.find-found.ensures.within in
    let g = (segment (goal.at.returns-in_default c).Else-number-eq0).gets c.deltas.p (omega (arith, c.sure_until-p.ensures.from)) c.if-until-p.false in
    sym (reads_bad _ _ _ c.deltas.p (omega (arith, c.sure_until-p.ensures.from)) (omega arith) (ap is_value (g ∙ sym (rw (e.of, e.number) at c.in_default.ensures))))
