-- What store_delta did to the lent tail, said of all data bytes.
use native.Mathlib.Omega.{arith}
use Rattle.rules.specs.Push.{delta_bytes}
use Rattle.laws.proofs.Bytes.{length_bytes}
use Rattle.delta.proofs.Storing.{stored_from}
use Rattle.push_effect.proofs.push_delta.Goals as goal

pub returns-clause-left : goal.returns-clause-left
returns-clause-left c =
    let a = c.args in
    let vs = delta_bytes a.width a.delta in
    rw (c.count_value.ensures.left, stored_from a.x.now.state.used vs a.x.now.bytes.now _ (omega (arith, length_bytes a.width a.delta)) c.store_delta.ensures)
