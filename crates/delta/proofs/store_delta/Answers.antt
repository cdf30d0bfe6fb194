-- A turn stores the lowest byte of the rest.
use mathlib.Core.Path.{sym, ◌∙◌}
use Prim.Native.Nat.{suc, ◌-◌}
use native.Mathlib.Omega.{arith}
use native.Mathlib.Numerals.{add-one}
use Rattle.delta.proofs.Storing.{store_step}
use Rattle.delta.proofs.store_delta.Goals as goal

pub loop-i-preserved : goal.loop-i-preserved
loop-i-preserved c =
    let a = c.args in
    let l = c.loop-i in
    rw add-one (sym (store_step l.tail l.i l.rest (a.width - l.i) (a.width - suc l.i) (omega arith)) ∙ l.invariant)
