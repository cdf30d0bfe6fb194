-- The largest delta of the width leaves room for the base exactly where every delta does.
use native.Mathlib.Omega.{arith}
use Rattle.delta.proofs.Loading.{fit_same}
use Rattle.delta.proofs.all_fit.Goals as goal

pub returns : goal.returns
returns c = fit_same c.args.width (omega arith) (omega arith) c.args.base (omega arith)
