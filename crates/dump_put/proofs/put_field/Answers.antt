-- The label, then the digits.
use Rattle.std.proofs.Common.{arith, append_assoc}
use Rattle.dump_put.proofs.Decimal.{decimal_printed}
use Rattle.dump_put.proofs.put_field.Goals as goal

pub returns-clause-put : goal.returns-clause-put
returns-clause-put g c =
    let same = decimal_printed c.args.n (omega (arith, c.ranges)) in
    rw (c.put-2.ensures.put, c.as_bytes.ensures.value, c.format.ensures.text, same, c.put.ensures.put, append_assoc)
