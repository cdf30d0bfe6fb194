-- C, D and E hold, so the verdict is F's.
use mathlib.Core.Bool.{Bool, true, false}
use mathlib.Core.Path.{sym, ap, ◌∙◌}
use native.Mathlib.Omega.{arith}
use Rattle.rules.specs.Words.{when}
use Rattle.rules.specs.Record.{width_tests}
use Rattle.rules.specs.Audit.{F, well_formed, flaw}
use Rattle.rules.specs.Refusals.{index_of}
use Rattle.laws.proofs.Tests.{facts_of, taken}
use Rattle.audit_rules.specs.Letters.{rule_c}
use Rattle.audit_rules.proofs.Letters.{f_same}
use Rattle.audit.proofs.Order.{flaw_next, flaw_last}
use Rattle.audit.proofs.audit_with_width.Goals as goal

pub returns : goal.returns
returns c =
    let a = c.args in
    let x = index_of a.g.counted.index.now in
    let fits = facts_of (width_tests a.g.counted.index.now.state.minimum a.w) (sym c.rule_c.ensures ∙ c.in_ok-keeps.ensures.kept) in
    let kept = taken (rule_c x a.g.k a.w) true false (omega arith) in
    let last = ap (λ (b : Bool). when b well_formed (flaw F a.g.k)) ((rw (c.base.ensures, c.mark-offset.ensures) at c.rule_f.ensures) ∙ f_same _ _ _ _ _ _ _ c.requires) in
    c.keeps-4.ensures.flaw
    ∙ sym
    (flaw_next _ _ _ kept ∙ flaw_next _ _ _ (sym c.rule_d.ensures ∙ c.in_ok-keeps-2.ensures.kept)
    ∙ flaw_next _ _ _ (sym c.rule_e.ensures ∙ c.in_ok-keeps-3.ensures.kept) ∙ flaw_last _ _ ∙ sym last)
