-- Eight bytes, or all that are left, are at least the delta's: shifted up and down they are the delta.
use Prim.Native.Nat.{◌+◌, ◌-◌}
use native.Mathlib.Omega.{arith}
use lib.ListN.{length}
use Rattle.delta.proofs.Loading.{cut_part}
use Rattle.delta.proofs.delta_at.Goals as goal

pub returns-then-at-bytes : goal.returns-then-at-bytes
returns-then-at-bytes c =
    let a = c.args in
    cut_part a.width (omega arith) (omega arith) a.bytes.now a.at (a.at + 8 - a.at) (omega arith) (omega arith) (λ i l. omega (arith, c.type_inv.bytes i)) c.load.result c.load.ensures

pub returns : goal.returns
returns c =
    let a = c.args in
    cut_part a.width (omega arith) (omega arith) a.bytes.now a.at (length a.bytes.now - a.at) (omega arith) (omega arith) (λ i l. omega (arith, c.type_inv.bytes i)) c.load-2.result c.load-2.ensures
