-- Whatever is planned has room, so doing it stays in bounds.
use Prim.Native.Nat.{ℕ, ◌-◌}
use mathlib.Core.List.{[], ◌∷◌}
use mathlib.Core.Path.{◌≡◌, sym, subst}
use native.Mathlib.Omega.{arith}
use lib.Dec.{ltb, eqb}
use Rattle.std.specs.declared.result.Result.{Result}
use Rattle.rules.specs.declared.Refusal.{Refusal}
use Rattle.rules.specs.Words.{Facts, ◌≤?◌}
use Rattle.rules.specs.Record.{Index, segments_of, widths_of, last_of, room_of, counts_hold}
use Rattle.rules.specs.Push.{segment_plan, first_plan, next_plan, plan_of}
use Rattle.laws.specs.Orders.{orders_of}
use Rattle.laws.proofs.Tests.{when_case, when_all_case}
use Rattle.laws.proofs.Counts.{counts_facts}
use Rattle.laws.proofs.Widths.{width_most}
use Rattle.push_plan.specs.Plans.{planned, HasRoom}
use Rattle.push_plan.specs.declared.Plan as code

module _ (x : Index) (c : Facts (orders_of x)) where
  -- a segment that is planned has room
  segment_bounds : HasRoom x (segment_plan x.state (room_of x))
  unfolding segment_plan
  segment_bounds = when_all_case (HasRoom x) _ (λ f. (c, f.1.0, f.1.1.0, f.1.1.1.0)) (λ f. tt)

  -- a first delta that is planned has room, its width too
  first_bounds : (base v : ℕ) → HasRoom x (first_plan x.state (room_of x) base v)
  unfolding first_plan
  first_bounds base v =
      when_all_case (HasRoom x) (base ≤? v ∷ [])
      (λ f. when_all_case (HasRoom x) _
      (λ f2. when_all_case (HasRoom x) _
      (λ f3. let m = width_most (v - base) in (c, f2.0, f3.0, omega arith))
      (λ n. tt)) (λ n. tt)) (λ n. tt)

  -- so has a further delta, and a segment that it starts
  next_bounds : (base width v : ℕ) → HasRoom x (next_plan x.state (room_of x) base width v)
  unfolding next_plan
  next_bounds base width v =
      when_all_case (HasRoom x) _
      (λ f. when_all_case (HasRoom x) _
      (λ f2. when_all_case (HasRoom x) _
      (λ f3. when_all_case (HasRoom x) _ (λ f4. (c, f4.0)) (λ n. tt))
      (λ n. segment_bounds)) (λ n. tt)) (λ n. tt)

-- whatever the rule plans has room
pub plan_bounds : (x : Index) (v : ℕ) → HasRoom x (plan_of x v)
unfolding plan_of
plan_bounds x v =
    when_case (HasRoom x) (counts_hold x)
    (λ h.
    let c = counts_facts x h in
    when_case (HasRoom x) (eqb (segments_of x) 0) (λ e. segment_bounds x c)
    (λ e. when_case (HasRoom x) (ltb (last_of x) (widths_of x)) (λ e2. next_bounds x c _ _ v) (λ e2. first_bounds x c _ v)))
    (λ h. tt)

-- what the code plans has room
pub bounds : (x : Index) (v : ℕ) (p : Result code.Plan Refusal) → planned p ≡ plan_of x v → HasRoom x (planned p)
bounds x v p e = subst (HasRoom x) (sym e) (plan_bounds x v)
