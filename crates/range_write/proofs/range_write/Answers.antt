-- The values of a..p are put, and nothing else. Every read is a value, so each search finds some segment.
use Prim.Native.Nat.{ℕ, ◌+◌, ◌-◌, ◌≤◌}
use mathlib.Core.Path.{◌≡◌, sym, ap, ◌∙◌}
use native.Mathlib.Omega.{arith}
use Rattle.rules.specs.Refusals.{index_of}
use Rattle.rules.specs.Reading.{get_rule}
use Rattle.range_reads.specs.Values.{ValuesIn}
use Rattle.range_reads.proofs.Deciding.{Segment}
use Rattle.range_write.specs.Puts.{value_of, gets}
use Rattle.range_write.proofs.Given.{reads_at, given}
use Rattle.range_write.proofs.Writing.{puts_none, part_length, puts_part}
use Rattle.range_write.proofs.range_write.Goals as goal
use Rattle.range_write.proofs.range_write.Goals.{After-find-found}

-- what the search found
found : (c : After-find-found) → let x = index_of c.args.x.index.now in let r = c.find-found.result in
    Segment x c.segments.p r.until (r.number - 1) × ValuesIn x (r.number - 1) c.segments.p r.until × (1 ≤ r.number)
found c =
    let a = c.args in
    given (index_of a.x.index.now) a.x.counts _ c.requires.in_use c.segments.p _ _ c.find-found.ensures c.requires.within
    (λ q l h. reads_at (index_of a.x.index.now) (a.finder.now.limit - a.a) a.a c.requires.values q (omega (arith, c.segments.invariant.from)) (omega arith))

pub segments-init : goal.segments-init
segments-init c =
    let e : c.args.a - c.args.a ≡ 0 = omega arith in
    record { from = omega arith; within = omega arith; put = rw e (puts_none _ _ _) }

pub overflow_sub-number : goal.overflow_sub-number
overflow_sub-number c = (found (goal.at.overflow_sub-number c).After-find-found).2

pub segment-g-requires : goal.segment-g-requires
segment-g-requires c = (found (goal.at.segment-g-requires c).After-find-found).0.there

pub fill_segment-requires-clause-after : goal.fill_segment-requires-clause-after
fill_segment-requires-clause-after c =
    let e = c.segment-g.ensures in
    rw (e.of, e.number) ((found (goal.at.fill_segment-requires-clause-after c).After-find-found).0.begins)

pub fill_segment-requires-clause-values : goal.fill_segment-requires-clause-values
fill_segment-requires-clause-values c =
    λ q l h.
    let within = c.find-found.ensures.within in
    let after = c.find-found.ensures.after in
    let room = c.requires.room in
    let from = c.segments.invariant.from in
    let d = c.segments.p - c.args.a in
    let e = part_length d (c.find-found.result.until - c.args.a - d) c.segments.out (omega arith) in
    let g = c.segment-g.ensures in
    rw (g.of, g.number) ((found (goal.at.fill_segment-requires-clause-values c).After-find-found).1 q l (omega arith))

pub segments-preserved : goal.segments-preserved
segments-preserved c =
    let a = c.args in
    let x = index_of a.x.index.now in
    let p = c.segments.p in
    let f = c.find-found.ensures in
    let within = f.within in
    let after = f.after in
    let from = c.segments.invariant.from in
    let room = c.requires.room in
    let s = (found (goal.at.segments-preserved c).After-find-found).0 in
    record {
      from = omega arith;
      within = within;
      put = puts_part (gets x a.a) _ (p - a.a) _ _ a.out.now _ _ (omega arith) (omega arith)
          (λ j h. let e : p + j ≡ a.a + (p - a.a + j) = omega arith in
          ap value_of (sym (s.gets (p + j) (omega arith) (omega arith))) ∙ ap (λ (n : ℕ). value_of (get_rule x n)) e)
          c.segments.invariant.put (let g = c.segment-g.ensures in rw (g.of, g.number) at c.fill_segment.ensures);
    }
