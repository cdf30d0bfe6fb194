-- Each early return refutes one test; the last line is the last test.
use native.Mathlib.Omega.{arith}
use lib.ListN.{length}
use borrow.Author.Tests.{leb-true, le-leb}
use Rattle.laws.proofs.Tests.{same_test, taken, facts_of}
use Rattle.tables.proofs.room_holds.Goals as goal

pub returns : goal.returns
returns c =
    let x = c.args.x.now in
    same_test _ _
    (λ t. let u = leb-true x.state.used (length x.bytes.now) t in taken _ _ _ (omega arith))
    (λ t. let f = facts_of _ t in le-leb x.state.used (length x.bytes.now) (omega arith))
