-- C to F are asked at the deltas and the width that the segment has.
use mathlib.Core.Bool.{Bool}
use mathlib.Core.Path.{refl, sym, ap, ◌∙◌}
use native.Mathlib.Omega.{arith}
use borrow.Author.Tests.{ltb-false}
use Rattle.rules.specs.Words.{when}
use Rattle.rules.specs.Record.{width}
use Rattle.rules.specs.Audit.{E, well_formed, flaw}
use Rattle.rules.specs.Refusals.{index_of}
use Rattle.laws.proofs.Answers.{width_there, width_absent}
use Rattle.audit.proofs.Order.{past_b, without}
use Rattle.audit.proofs.audit_segment.Goals as goal

pub returns-in_default : goal.returns-in_default
returns-in_default c =
    let a = c.args in
    let x = index_of a.g.counted.index.now in
    let h = ltb-false a.g.k a.g.counted.index.now.state.widths (width_absent _ _ _ (sym c.width.ensures ∙ c.in_default.is)) in
    let last = ap (λ (b : Bool). when b well_formed (flaw E a.g.k)) (c.rule_e_without_width.ensures (width x a.g.k)) in
    c.keeps-in_default.ensures.flaw ∙ last ∙ sym (without x a.g.k _ _ h (omega arith))
    ∙ past_b x a.g.k _ _ (sym c.rule_b.ensures ∙ c.in_ok-keeps.ensures.kept) c.deltas_of-d.ensures refl

pub returns : goal.returns
returns c =
    let a = c.args in
    let w = width_there _ _ _ _ (sym c.width.ensures ∙ c.in-Of.is) in
    c.audit_with_width.ensures ∙ past_b (index_of a.g.counted.index.now) a.g.k _ _ (sym c.rule_b.ensures ∙ c.in_ok-keeps.ensures.kept) c.deltas_of-d.ensures (sym w.1)
