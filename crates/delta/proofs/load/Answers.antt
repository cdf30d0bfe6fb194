-- The bytes are shifted in from the last to the first.
use Rattle.std.proofs.Common.{rules}
use mathlib.Core.List.{reverse}
use mathlib.Core.Path.{◌≡◌, ◌∙◌}
use native.Mathlib.Omega.{arith}
use Rattle.std.specs.List.{fold}
use Rattle.delta.proofs.Loading.{shift_in, shifted_in}
use Rattle.delta.proofs.load.Goals as goal

pub returns : goal.returns
returns c =
    let s = c.args.bytes.now in
    let e : c.fold.result ≡ fold shift_in 0 (reverse s) = search rules in
    e ∙ shifted_in s (omega arith) (λ i l. omega (arith, c.type_inv.bytes i))
