-- The verdict on segment k is the audit's where it is a flaw, and on to the next where it is none.
use mathlib.Core.Path.{◌≡◌, ◌∙◌}
use native.Mathlib.Omega.{arith}
use Rattle.std.proofs.Common.{rules}
use Rattle.rules.specs.Audit.{well_formed, first_flaw, rules_of}
use Rattle.rules.specs.Refusals.{index_of}
use Rattle.audit.proofs.Order.{audit_on, audit_stop}
use Rattle.audit.proofs.audit.Goals as goal

pub returns-in_err-audit_segment : goal.returns-in_err-audit_segment
returns-in_err-audit_segment c =
    let g = c.segment.ensures in
    let e = rw (g.of, g.number) at c.audit_segment.ensures in
    search (rules, audit_stop, e)

pub loop-k-preserved : goal.loop-k-preserved
loop-k-preserved c =
    let g = c.segment.ensures in
    let e = rw (g.of, g.number) at c.audit_segment.ensures in
    let h : first_flaw c.loop-k.k (rules_of (index_of c.in-Ok.counted.index.now) c.loop-k.k) ≡ well_formed = grind (arith, e) in
    c.loop-k.invariant ∙ audit_on _ _ _ (rw (g.of, g.number) at c.segment.result.there) h
