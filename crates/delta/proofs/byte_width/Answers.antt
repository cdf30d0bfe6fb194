-- The code's formula is the rule's; leading zero bits are at most 64, so nothing goes below 0.
use Prim.Native.Nat.{ℕ, zero, suc, ◌-◌, ◌/◌}
use mathlib.Core.Path.{◌≡◌, refl}
use Rattle.rules.specs.Push.{byte_width}
use native.Mathlib.Omega.{arith}
use lib.Count.{leading_le, count_leading_zeros}
use Rattle.delta.proofs.byte_width.Goals as goal

-- the rule's second case, of a number that is not 0
not_zero : (n : ℕ) → (n ≡ 0 → ⊥) → 8 - count_leading_zeros 64 n / 8 ≡ byte_width n
not_zero zero h = absurd (h refl)
not_zero (suc n) h = refl

pub overflow_cast-result : goal.overflow_cast-result
overflow_cast-result c = omega (arith, leading_le 64 c.args.value)

pub overflow_sub-result : goal.overflow_sub-result
overflow_sub-result c = omega (arith, leading_le 64 c.args.value)

pub returns : goal.returns
returns c = not_zero c.args.value c.if-value-eq0.false
