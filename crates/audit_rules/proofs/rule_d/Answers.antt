-- 256 ^ width is never made: a gap is below it exactly where the gap takes at most `width` bytes.
use mathlib.Core.Path.{ap, ◌∙◌}
use native.Mathlib.Omega.{arith}
use lib.Dec.{ltb}
use Rattle.rules.specs.Refusals.{index_of}
use Rattle.audit_rules.proofs.Letters.{d_same}
use Rattle.audit_rules.proofs.rule_d.Goals as goal

pub returns-then-base-next : goal.returns-then-base-next
returns-then-base-next c =
    let a = c.args in
    ap (ltb a.w) c.byte_width.ensures ∙ d_same (index_of a.x.now) a.k a.w c.if-x-k.false (omega arith) c.if-base-next.true (omega arith)
