-- The base first, where it is due; then the deltas, whose reads are all values: so they are there, fit, and are what the reads say.
use Prim.Native.Nat.{ℕ, ◌+◌, ◌-◌, ◌*◌, ◌≤◌}
use mathlib.Core.Path.{◌≡◌, refl, sym, ap, ◌∙◌}
use native.Mathlib.Omega.{arith}
use lib.ListN.{length}
use Rattle.rules.specs.Refusals.{index_of}
use Rattle.rules.specs.Reading.{read_in}
use Rattle.laws.proofs.Tests.{false_not_true}
use Rattle.laws.proofs.Answers.{width_there, width_absent}
use Rattle.range_write.specs.Puts.{value_of, in_segment, puts}
use Rattle.range_write.proofs.Writing.{RunOf, based_next, based_puts, rest_of, part_length, puts_part}
use Rattle.range_write.proofs.fill_segment.Goals as goal
use Rattle.range_write.proofs.fill_segment.Goals.{In-Of}

-- the deltas to put
deltas : (c : In-Of) → let q = c.put_base-q.result in (c.args.p ≤ q) × RunOf (index_of c.args.g.counted.index.now) c.args.g.k c.in-Of.w q (length c.args.out.now - (q - c.args.p))
deltas c =
    let a = c.args in
    rest_of (index_of a.g.counted.index.now) a.g.k _ a.p _ _ _ _ c.put_base-q.ensures c.requires.after (width_there a.g.counted.index.now.state _ _ _ (sym c.in-Of.ensures)).1
    (omega (arith, a.g.counted.counts)) c.requires.values (omega arith)

-- they begin within the bytes in use
begins : (c : In-Of) → c.offset-offset.result + (c.put_base-q.result - c.start-start.result - 1) * c.in-Of.w ≤ c.args.g.counted.index.now.state.used
begins c = rw (c.offset-offset.ensures, c.start-start.ensures) (deltas c).1.from

pub returns-then-out-filled : goal.returns-then-out-filled
returns-then-out-filled c =
    let a = c.args in
    let x = index_of a.g.counted.index.now in
    let n = based_next x a.g.k a.p _ _ _ c.put_base-q.ensures c.requires.after in
    let e : c.put_base-q.result - a.p ≡ length a.out.now = omega arith in
    based_puts x a.g.k a.p _ _ _ c.put_base-q.ensures ∙ ap (λ (m : ℕ). puts (in_segment x a.g.k a.p) 0 m a.out.now) e

pub returns-in_default : goal.returns-in_default
returns-in_default c =
    let a = c.args in
    let r = rest_of (index_of a.g.counted.index.now) a.g.k _ a.p _ (length a.out.now) _ _ c.put_base-q.ensures c.requires.after refl (omega (arith, a.g.counted.counts)) c.requires.values (omega arith) in
    false_not_true _ r.1.has (width_absent a.g.counted.index.now.state a.g.counted.index.now.widths.now _ (sym c.in_default.ensures))

pub overflow_mul-at : goal.overflow_mul-at
overflow_mul-at c = omega (arith, begins c, c.args.g.counted.counts)

pub overflow_add-at : goal.overflow_add-at
overflow_add-at c = omega (arith, begins (goal.at.overflow_add-at c).In-Of, c.args.g.counted.counts)

pub slice_bounds-bytes-count : goal.slice_bounds-bytes-count
slice_bounds-bytes-count c = omega (arith, begins (goal.at.slice_bounds-bytes-count c).In-Of, c.args.g.counted.counts)

pub slice_bounds-bytes-start : goal.slice_bounds-bytes-start
slice_bounds-bytes-start c = omega (arith, begins (goal.at.slice_bounds-bytes-start c).In-Of, c.args.g.counted.counts)

pub fill_deltas-requires-clause-some : goal.fill_deltas-requires-clause-some
fill_deltas-requires-clause-some c = let least = (deltas (goal.at.fill_deltas-requires-clause-some c).In-Of).1.least in omega (arith, c.args.g.counted.counts)

pub fill_deltas-requires-clause-most : goal.fill_deltas-requires-clause-most
fill_deltas-requires-clause-most c = (deltas (goal.at.fill_deltas-requires-clause-most c).In-Of).1.most

pub fill_deltas-requires-clause-run : goal.fill_deltas-requires-clause-run
fill_deltas-requires-clause-run c =
    λ i h.
    let e = part_length (c.put_base-q.result - c.args.p) (length c.args.out.now - (c.put_base-q.result - c.args.p)) c.put_base-q.new.out (omega arith) in
    rw (c.offset-offset.ensures, c.start-start.ensures, c.base-base.ensures) ((deltas (goal.at.fill_deltas-requires-clause-run c).In-Of).1.run i (omega arith))

pub returns : goal.returns
returns c =
    let a = c.args in
    let x = index_of a.g.counted.index.now in
    let q = c.put_base-q.result in
    let d = deltas (goal.at.returns c).In-Of in
    let p = d.0 in
    puts_part (in_segment x a.g.k a.p) _ (q - a.p) _ _ a.out.now _ _ (omega arith) (omega arith)
    (λ j h. let e : q + j ≡ a.p + (q - a.p + j) = omega arith in d.1.same j (omega arith) ∙ ap (λ (n : ℕ). value_of (read_in x a.g.k n)) e)
    (based_puts x a.g.k a.p _ _ _ c.put_base-q.ensures) (rw (c.offset-offset.ensures, c.start-start.ensures, c.base-base.ensures) at c.fill_deltas.ensures)
