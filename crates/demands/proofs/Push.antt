-- A push on a well-formed index: what each plan may rely on, why it keeps the audit, and why room is enough.
use Prim.Native.Nat.{ℕ, ◌+◌, ◌-◌, ◌^◌, ◌≤◌, ◌<◌}
use mathlib.Core.List.{[], ◌∷◌}
use mathlib.Core.Path.{◌≡◌, refl}
use native.Mathlib.Omega.{arith}
use native.Mathlib.Nat.{pow-le-pow_right, lt_of_lt_of_le}
use lib.Dec.{ltb, eqb, lit<}
use lib.ListN.{length, set, length-set}
use lib.Seq.{get_or-set_same, get_or-set_other}
use borrow.Author.Tests.{ltb-true, ltb-false, eqb-true, eqb-false}
use Rattle.rules.specs.Words.{◌≤?◌, ◌<?◌, Facts}
use Rattle.rules.specs.Record.{Index, minimum_of, length_of, segments_of, widths_of, last_of, base, width, room_of, width_tests}
use Rattle.rules.specs.Push.{need_of, Plan, refuse, segment, first, more, segment_room, data_room, segment_plan, first_plan, next_plan, plan_of, with_segment, with_first, with_more}
use Rattle.laws.proofs.Tests.{when_case, when_all_case}
use Rattle.laws.proofs.Widths.{width_holds, width_least, width_most}
use Rattle.demands.specs.Terms.{RoomFor}
use Rattle.demands.proofs.Compare.{by_less}
use Rattle.demands.proofs.WellFormed.{WellFormed}
use Rattle.demands.proofs.Bounds.{counts_hold_lem, length_least, used_most}
use Rattle.demands.proofs.Holds.{OneMore}
use Rattle.demands.proofs.NewSegment.{Gap, segment_more}
use Rattle.demands.proofs.NewDelta.{Storable, Last, last_bare, last_whole, delta_more}

-- what a plan may rely on: a refusal is 1 to 4, and with room for a value more it is 1
abbrev pub Allowed : Index → ℕ → Plan → Type 0
Allowed x v (refuse e) = (e ≤ 4) × ((n : ℕ) → length_of x < n → RoomFor (room_of x) n → e ≡ 1)
Allowed x v segment = (widths_of x ≡ segments_of x) × Facts (segment_room x.state (room_of x)) × (v < 2 ^ 64 → Gap x v)
Allowed x v (first d need) = (widths_of x + 1 ≡ segments_of x) × (widths_of x < length x.widths) × Storable x v d need
Allowed x v (more d wide) = (widths_of x ≡ segments_of x) × (width x (last_of x) ≡ wide) × Storable x v d wide

-- a width that is enough holds its number
need_holds : (d m w : ℕ) → d < 2 ^ 64 → need_of d m ≤ w → d < 256 ^ w
need_holds d m w s h = lt_of_lt_of_le (width_holds d s) (pow-le-pow_right {n = 256} (lit< tt) (omega arith))

-- a number that needs more than w bytes is at least 256^w
need_above : (d m w : ℕ) → d < 2 ^ 64 → 0 < w → m ≤ w → (need_of d m ≤ w → ⊥) → 256 ^ w ≤ d
need_above d m w s p h never = by_less d (256 ^ w) (λ l. let q = width_least d w s p l in absurd (never (omega arith))) (λ l. l)

module _ (x : Index) (w : WellFormed x) (v : ℕ) where
  -- a delta whose need is at most `wide`
  storable : {wide : ℕ} → base x (last_of x) ≤ v → 1 ≤ segments_of x → need_of (v - base x (last_of x)) (minimum_of x) ≤ wide → wide ≤ 8
      → Facts (data_room x.state (room_of x) wide) → Storable x v (v - base x (last_of x)) wide
  storable {wide} l some need most room = record {
    some = some;
    sum = omega arith;
    least = omega arith;
    most = most;
    holds = λ h. need_holds (v - base x (last_of x)) (minimum_of x) wide (omega arith) need;
    room = room;
  }

  -- where a new segment is due, widths is segments, so 2 x segments <= length and there is room
  segment_allowed : widths_of x ≡ segments_of x → (v < 2 ^ 64 → Gap x v) → Allowed x v (segment_plan x.state (room_of x))
  unfolding segment_plan
  segment_allowed all gap =
      when_all_case (Allowed x v) (segment_room x.state (room_of x))
      (λ f. (all, f, gap))
      (λ never. (omega arith, λ n l r. absurd (never (let s = length_least x w in omega arith))))

  -- where a first delta is due, the last segment has no width
  first_allowed : widths_of x + 1 ≡ segments_of x → Allowed x v (first_plan x.state (room_of x) (base x (last_of x)) v)
  unfolding first_plan
  first_allowed last =
      let c = w.counts in
      let s = length_least x w in
      let u = used_most x w in
      let b = base x (last_of x) in
      let need = need_of (v - b) (minimum_of x) in
      let top = width_most (v - b) in
      when_all_case (Allowed x v) (b ≤? v ∷ [])
      (λ f. when_all_case (Allowed x v) ((widths_of x) <? length x.widths ∷ [])
      (λ f2. when_all_case (Allowed x v) (data_room x.state (room_of x) need)
      (λ f3. (last, f2.0, storable f.0 (omega arith) (omega arith) (omega arith) f3))
      (λ never. (omega arith, λ n l r. absurd (never (omega arith)))))
      (λ never. (omega arith, λ n l r. absurd (never (omega arith)))))
      (λ never. (omega arith, λ n l r. refl))

  -- where the last segment has a width, the audit bounds it, so this is never 10
  next_allowed : widths_of x ≡ segments_of x → 1 ≤ segments_of x → Allowed x v (next_plan x.state (room_of x) (base x (last_of x)) (width x (last_of x)) v)
  unfolding next_plan
  next_allowed all some =
      let c = w.counts in
      let u = used_most x w in
      let k = last_of x in
      let b = base x k in
      let o = w.whole k (omega arith) in
      let o1 = o.least in
      let o2 = o.most in
      when_all_case (Allowed x v) (width_tests (minimum_of x) (width x k))
      (λ f. when_all_case (Allowed x v) (b ≤? v ∷ [])
      (λ f2. when_all_case (Allowed x v) (need_of (v - b) (minimum_of x) ≤? width x k ∷ [])
      (λ f3. when_all_case (Allowed x v) (data_room x.state (room_of x) (width x k))
      (λ f4. (all, refl, storable f2.0 some f3.0 o2 f4))
      (λ never. (omega arith, λ n l r. absurd (never (omega arith)))))
      (λ never. segment_allowed all
      (λ h j e.
      let a = need_above (v - b) (minimum_of x) (width x k) (omega arith) (omega arith) o1 (λ l. never (l, tt)) in
      let t : j ≡ k = omega arith in
      rw t (omega arith))))
      (λ never. (omega arith, λ n l r. refl)))
      (λ never. absurd (never (omega arith)))

  -- the plan of a push may rely on it
  pub plan_allowed : Allowed x v (plan_of x v)
  unfolding plan_of
  plan_allowed =
      let c = w.counts in
      rw (counts_hold_lem x w)
      (when_case (Allowed x v) (eqb (segments_of x) 0)
      (λ e. let z = eqb-true (segments_of x) 0 e in segment_allowed (omega arith) (λ h k l. absurd (omega arith)))
      (λ e.
      let z = eqb-false (segments_of x) 0 e in
      when_case (Allowed x v) (ltb (last_of x) (widths_of x))
      (λ e2. let l = ltb-true (last_of x) (widths_of x) e2 in next_allowed (omega arith) (omega arith))
      (λ e2. let l = ltb-false (last_of x) (widths_of x) e2 in first_allowed (omega arith))))

module _ (x : Index) (w : WellFormed x) (v : ℕ) (small : v < 2 ^ 64) where
  -- a new segment keeps the audit
  pub more_segment : Allowed x v segment → OneMore x (with_segment x v) v
  more_segment a = segment_more x w v a.0 a.1 (a.2 small)

  -- and so does a first delta
  pub more_first : (d need : ℕ) → Allowed x v (first d need) → OneMore x (with_first x d need) v
  more_first d need a =
      let e : last_of x ≡ widths_of x = let l = a.0 in omega arith in
      let long : widths_of x + 1 ≤ length (set x.widths (widths_of x) need) = let r = a.1 in rw length-set (omega arith) in
      delta_more x w v d need _ _ small a.2 (last_bare x w a.0 need) a.0 long
      (λ j h. get_or-set_other x.widths (widths_of x) j need 0 (λ q. omega arith)) (rw e (get_or-set_same x.widths (widths_of x) need 0 a.1))

  -- and a further one
  pub more_delta : (d wide : ℕ) → Allowed x v (more d wide) → OneMore x (with_more x d wide) v
  more_delta d wide a =
      let c = w.counts in
      let old : Last x wide = rw a.1 at (last_whole x w a.0 a.2.some) in
      delta_more x w v d wide _ _ small a.2 old a.0 (omega arith) (λ j h. refl) a.1
