-- Either no delta of this width can be too large, or the sums are tested one by one.
use Prim.Native.Nat.{ℕ, ◌+◌, ◌*◌, ◌^◌, ◌≤◌, ◌<◌}
use mathlib.Core.Path.{refl, sym, ◌∙◌}
use native.Mathlib.Omega.{arith}
use borrow.Author.Tests.{leb-true, tests}
use Rattle.std.proofs.Common.{rules}
use Rattle.std.proofs.lemmas.Iterator.{cases_from_all, YieldsList-from_range}
use Rattle.rules.specs.Push.{delta_at}
use Rattle.audit_rules.proofs.Letters.{f_sure, tested}
use Rattle.audit_rules.proofs.rule_f.Goals as goal

pub returns-then-all_fit : goal.returns-then-all_fit
returns-then-all_fit c =
    let a = c.args in
    sym (f_sure a.bytes.now a.base a.offset a.d a.w (omega arith) (λ i l. omega (arith, c.type_inv.bytes i)) (leb-true _ _ (sym c.all_fit.ensures ∙ c.if-all_fit.true)))

pub returns : goal.returns
returns c =
    let a = c.args in
    let sum : ℕ → ℕ = λ i. a.base + delta_at a.bytes.now (a.offset + i * a.w) a.w in
    tested a.d sum (2 ^ 64) c.all.result
    (cases_from_all _ _ _ (λ i. sum i < 2 ^ 64) (λ i. 2 ^ 64 ≤ sum i) c.all.ensures.ran (YieldsList-from_range 0 a.d a.d refl (omega arith)) (λ x q k. search (rules, tests, arith)) (λ x q k. search (rules, tests, arith)))
