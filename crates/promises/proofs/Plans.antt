-- What each plan of a push rests on, and what it leaves.
use Prim.Native.Nat.{ℕ, ◌+◌, ◌-◌, ◌≤◌}
use mathlib.Core.Bool.{true}
use mathlib.Core.List.{List, [], ◌∷◌}
use mathlib.Core.Logic.{inl, inr}
use mathlib.Core.Path.{◌≡◌, refl}
use native.Mathlib.Omega.{arith}
use lib.Dec.{ltb, eqb}
use lib.ListN.{length}
use borrow.Author.Tests.{ltb-true, ltb-false, eqb-true, eqb-false}
use Rattle.rules.specs.Words.{value, ◌≤?◌, ◌<?◌}
use Rattle.rules.specs.Record.{Index, index, minimum_of, length_of, segments_of, widths_of, used_of, last_of, base, width, room_of, width_tests, counts_hold}
use Rattle.rules.specs.Push.{Plan, refuse, segment, first, more, segment_plan, first_plan, next_plan, plan_of, grown, effect}
use Rattle.rules.specs.Push as rule
use Rattle.laws.proofs.Tests.{when_case, when_all_case}
use Rattle.laws.proofs.Counts.{counts_facts}
use Rattle.laws.proofs.Widths.{width_most}
use Rattle.promises.specs.Table.{HasWidth, WidthDue, SegmentDue, need}
use Rattle.promises.specs.Kept.{Kept, Appended}
use Rattle.promises.proofs.Stores.{kept_all, kept_set, kept_bytes}

-- what a plan rests on
abbrev pub Due : Index → ℕ → Plan → Type 0
Due x v (refuse e) = Unit
Due x v segment = SegmentDue x v
Due x v (first d n) = WidthDue x × (d ≡ v - base x (last_of x)) × (n ≡ need x v) × (n ≤ 8)
Due x v (more d w) = HasWidth x × (d ≡ v - base x (last_of x)) × (w ≡ width x (last_of x)) × (need x v ≤ w) × (w ≤ 8)

module _ (x : Index) (v : ℕ) where
  -- a new segment is planned where one is due
  segment_due : SegmentDue x v → Due x v (segment_plan x.state (room_of x))
  unfolding segment_plan
  segment_due due = when_all_case (Due x v) (rule.segment_room x.state (room_of x)) (λ f. due) (λ never. tt)

  -- a first delta is planned where a width is due
  first_due : counts_hold x ≡ true → WidthDue x → Due x v (first_plan x.state (room_of x) (base x (last_of x)) v)
  unfolding first_plan
  first_due c due =
      let f = counts_facts x c in let most = width_most (v - base x (last_of x)) in
      when_all_case (Due x v) (base x (last_of x) ≤? v ∷ [])
      (λ l. when_all_case (Due x v) (widths_of x <? length x.widths ∷ [])
      (λ w. when_all_case (Due x v) (rule.data_room x.state (room_of x) (need x v)) (λ r. (due, refl, refl, omega arith)) (λ never. tt))
      (λ never. tt)) (λ never. tt)

  -- a further delta is planned where the current width holds it
  next_due : HasWidth x → Due x v (next_plan x.state (room_of x) (base x (last_of x)) (width x (last_of x)) v)
  unfolding next_plan
  next_due has =
      let w = width x (last_of x) in
      when_all_case (Due x v) (width_tests (minimum_of x) w)
      (λ f. when_all_case (Due x v) (base x (last_of x) ≤? v ∷ [])
      (λ l. when_all_case (Due x v) (need x v ≤? w ∷ [])
      (λ g. when_all_case (Due x v) (rule.data_room x.state (room_of x) w) (λ r. (has, refl, refl, g.0, f.1.0)) (λ never. tt))
      (λ never. let over : need x v ≤ w → ⊥ = λ l. never (l, tt) in segment_due (inr (has, omega arith))))
      (λ never. tt)) (λ never. tt)

  -- what is planned is due
  pub plan_due : Due x v (plan_of x v)
  unfolding plan_of
  plan_due =
      when_case (Due x v) (counts_hold x)
      (λ c. when_case (Due x v) (eqb (segments_of x) 0) (λ e. segment_due (inl (eqb-true (segments_of x) 0 e)))
      (λ e. let some = eqb-false (segments_of x) 0 e in
      when_case (Due x v) (ltb (last_of x) (widths_of x))
      (λ t. next_due (omega arith, ltb-true (last_of x) (widths_of x) t))
      (λ t. first_due c (omega arith, ltb-false (last_of x) (widths_of x) t))))
      (λ c. tt)

  -- a delta appended leaves starts, bases and offsets as they are
  delta_appended : (widths used : ℕ) (ws ds : List ℕ) → widths ≤ widths_of x + 1 → used ≤ used_of x + 8
      → Kept (widths_of x) widths x.widths ws → Kept (used_of x) used x.bytes ds
      → Appended x (index (grown x.state (segments_of x) widths used) x.starts x.bases x.offsets ws ds)
  delta_appended widths used ws ds a b kw kd = record {
    minimum = refl;
    length = refl;
    few = omega arith;
    starts = kept_all (segments_of x) (segments_of x) x.starts;
    bases = kept_all (segments_of x) (segments_of x) x.bases;
    offsets = kept_all (segments_of x) (segments_of x) x.offsets;
    widths = kw;
    bytes = kd;
  }

  -- what each plan leaves
  pub plan_appended : (p : ℕ) (plan : Plan) → Due x v plan → (effect x v plan).answer ≡ value p → Appended x (effect x v plan).left
  plan_appended p (refuse e) d q = cc
  plan_appended p segment d q = record {
    minimum = refl;
    length = refl;
    few = omega arith;
    starts = kept_set x.starts (segments_of x) (length_of x);
    bases = kept_set x.bases (segments_of x) v;
    offsets = kept_set x.offsets (segments_of x) (used_of x);
    widths = kept_all (widths_of x) (widths_of x) x.widths;
    bytes = kept_all (used_of x) (used_of x) x.bytes;
  }
  plan_appended p (first k n) d q =
      delta_appended (widths_of x + 1) (used_of x + n) _ _ (omega arith) (omega arith) (kept_set x.widths (widths_of x) n) (kept_bytes x.bytes (used_of x) n k)
  plan_appended p (more k w) d q =
      delta_appended (widths_of x) (used_of x + w) _ _ (omega arith) (omega arith) (kept_all (widths_of x) (widths_of x) x.widths) (kept_bytes x.bytes (used_of x) w k)
