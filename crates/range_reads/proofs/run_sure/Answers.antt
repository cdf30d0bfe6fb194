-- There is room for each delta, and the base may have any delta of this width added to it.
use mathlib.Core.Path.{sym, ◌∙◌}
use native.Mathlib.Omega.{arith}
use lib.ListN.{length}
use borrow.Author.Tests.{leb-true}
use Rattle.laws.proofs.Bytes.{delta_at_below, room_fits}
use Rattle.range_reads.proofs.run_sure.Goals as goal

pub returns-then-n-bytes : goal.returns-then-n-bytes
returns-then-n-bytes c =
    λ t i l.
    let a = c.args in
    let r = room_fits (length a.bytes.now) i a.width c.requires.some (omega arith) in
    let d = delta_at_below a.bytes.now (length a.bytes.now) a.width _ (λ j h. omega (arith, c.type_inv.bytes j)) r in
    let s = leb-true _ _ (sym c.all_fit.ensures ∙ t) in
    (r, omega arith)
