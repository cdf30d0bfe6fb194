-- Push keeps to its table. What is due is one of three: a segment, a width with its bytes, or bytes alone; no two of them at once.
use Prim.Native.Nat.{ℕ, ◌+◌, ◌-◌, ◌≤◌, ◌<◌}
use mathlib.Core.Bool.{true}
use mathlib.Core.List.{List, [], ◌∷◌}
use mathlib.Core.Logic.{inl, inr, ⊎_elim}
use mathlib.Core.Path.{◌≡◌, refl}
use native.Mathlib.Omega.{arith}
use lib.ListN.{length}
use lib.Dec.{ltb, eqb}
use borrow.Author.Tests.{ltb-true, ltb-false, eqb-true, eqb-false}
use Rattle.rules.specs.Words.{value, ◌≤?◌, ◌<?◌, unless_all}
use Rattle.rules.specs.Record.{Index, minimum_of, length_of, segments_of, widths_of, used_of, last_of, base, width, room_of, segment_limit, data_limit, width_tests, counts_hold}
use Rattle.rules.specs.Push.{Plan, refuse, first, more, segment_plan, first_plan, next_plan, plan_of, effect, push_rule}
use Rattle.rules.specs.Push as rule
use Rattle.laws.proofs.Tests.{when_case, when_all_case}
use Rattle.laws.proofs.Counts.{counts_facts}
use Rattle.promises.specs.Sentences.{Sentence}
use Rattle.promises.specs.Table.{CountsRule, HasWidth, WidthDue, need, SegmentDue, BytesDue, last_damaged, below, segment_room, width_room, data_room, push_table}
use Rattle.promises.proofs.Deciding.{Decided, pass, stop, go_on, or_else, within, full_or}
use Rattle.promises.proofs.CountsRule.{counts_rule, counts_broken}

-- push's sentences from 2 on
abbrev from2 : Index → ℕ → List Sentence
from2 x v = segment_room x v ∷ width_room x ∷ data_room x v ∷ []

-- from 1 on
abbrev from1 : Index → ℕ → List Sentence
from1 x v = below x v ∷ from2 x v

-- from 10 on
abbrev from10 : Index → ℕ → List Sentence
from10 x v = last_damaged x ∷ from1 x v

-- a plan keeps to sentences where the push that follows it does
abbrev Planned : Index → ℕ → List Sentence → Plan → Type 0
Planned x v t p = Decided t (effect x v p).answer

module _ (x : Index) (v : ℕ) where
  -- one number of bytes is due
  one_due : (k n : ℕ) → BytesDue x v k → BytesDue x v n → k ≡ n
  one_due k n (inl a) (inl b) = omega arith
  one_due k n (inl a) (inr (inl b)) = ⊎_elim (λ s. omega arith) (λ s. omega arith) a.0
  one_due k n (inl a) (inr (inr b)) = ⊎_elim (λ s. omega arith) (λ s. omega arith) a.0
  one_due k n (inr (inl a)) (inl b) = ⊎_elim (λ s. omega arith) (λ s. omega arith) b.0
  one_due k n (inr (inl a)) (inr (inl b)) = omega arith
  one_due k n (inr (inl a)) (inr (inr b)) = omega arith
  one_due k n (inr (inr a)) (inl b) = ⊎_elim (λ s. omega arith) (λ s. omega arith) b.0
  one_due k n (inr (inr a)) (inr (inl b)) = omega arith
  one_due k n (inr (inr a)) (inr (inr b)) = omega arith

  -- n bytes are due: 4 alone is left
  bytes_decided : (n : ℕ) (p : Plan) → BytesDue x v n → (effect x v p).answer ≡ value (length_of x)
      → Planned x v (data_room x v ∷ []) (unless_all (rule.data_room x.state (room_of x) n) (refuse 4) p)
  bytes_decided n p due e =
      when_all_case (Planned x v (data_room x v ∷ [])) (rule.data_room x.state (room_of x) n)
      (λ f. rw e (pass (λ d. let q = one_due d.0 n d.1 due in ⊎_elim (λ over. omega arith) (λ over. omega arith) d.2)))
      (λ never. stop (n, due, or_else (used_of x + n) (length x.bytes) (λ a. let over : used_of x + n ≤ data_limit → ⊥ = λ b. never (a, (b, tt)) in omega arith)))

  -- a new segment is due: 2 alone can be given
  segment_decided : counts_hold x ≡ true → SegmentDue x v
      → Planned x v (from2 x v) (segment_plan x.state (room_of x))
  unfolding segment_plan
  segment_decided c due =
      let f = counts_facts x c in let s = segments_of x in
      when_all_case (Planned x v (from2 x v)) (rule.segment_room x.state (room_of x))
      (λ g. go_on (λ d. ⊎_elim (λ q. omega arith) (⊎_elim (λ q. omega arith) (⊎_elim (λ q. omega arith) (λ q. omega arith))) d.1)
      (go_on (λ d. ⊎_elim (λ q. omega arith) (λ q. omega arith) due)
      (pass (λ d. let q = one_due d.0 0 d.1 (inl (due, refl)) in ⊎_elim (λ over. omega arith) (λ over. omega arith) d.2))))
      (λ never. stop (
        due,
        full_or s segment_limit (omega arith) (λ a. full_or s (length x.starts) (omega arith) (λ b. full_or s (length x.bases) (omega arith) (λ d.
            let full : s < length x.offsets → ⊥ = λ l. never (a, (b, (d, (l, tt)))) in omega arith))),
      ))

  -- the last segment has no width: 1, 3 or 4
  first_decided : counts_hold x ≡ true → WidthDue x
      → Planned x v (from10 x v) (first_plan x.state (room_of x) (base x (last_of x)) v)
  unfolding first_plan
  first_decided c due =
      let f = counts_facts x c in let b = base x (last_of x) in
      go_on (λ d. omega arith)
      (when_all_case (Planned x v (from1 x v)) (b ≤? v ∷ [])
      (λ l. go_on (λ d. omega arith) (go_on (λ d. ⊎_elim (λ q. omega arith) (λ q. omega arith) d.0)
      (when_all_case (Planned x v (width_room x ∷ data_room x v ∷ [])) (widths_of x <? length x.widths ∷ [])
      (λ room. go_on (λ d. omega arith) (bytes_decided (need x v) (first (v - b) (need x v)) (inr (inl (due, refl))) refl))
      (λ never. let full : widths_of x < length x.widths → ⊥ = λ l. never (l, tt) in stop (due, omega arith)))))
      (λ never. let under : b ≤ v → ⊥ = λ l. never (l, tt) in stop (omega arith)))

  -- the last segment has a width: 10, 1, 2 or 4
  next_decided : counts_hold x ≡ true → HasWidth x
      → Planned x v (from10 x v) (next_plan x.state (room_of x) (base x (last_of x)) (width x (last_of x)) v)
  unfolding next_plan
  next_decided c has =
      let b = base x (last_of x) in let w = width x (last_of x) in let m = minimum_of x in
      when_all_case (Planned x v (from10 x v)) (width_tests m w)
      (λ f. go_on (λ d. within m w f.0 f.1.0 d.1)
      (when_all_case (Planned x v (from1 x v)) (b ≤? v ∷ [])
      (λ l. go_on (λ d. omega arith)
      (when_all_case (Planned x v (from2 x v)) (need x v ≤? w ∷ [])
      (λ fits. go_on (λ d. ⊎_elim (λ q. omega arith) (λ q. omega arith) d.0) (go_on (λ d. omega arith)
      (bytes_decided w (more (v - b) w) (inr (inr (has, fits.0, refl))) refl)))
      (λ never. let over : need x v ≤ w → ⊥ = λ l. never (l, tt) in segment_decided c (inr (has, omega arith)))))
      (λ never. let under : b ≤ v → ⊥ = λ l. never (l, tt) in stop (omega arith))))
      (λ never. stop (has, or_else m w (λ l. let over : w ≤ 8 → ⊥ = λ h. never (l, (h, tt)) in omega arith)))

  -- push of v
  pub push_decided : Decided (push_table x v) (push_rule x v).answer
  unfolding push_rule plan_of
  push_decided =
      when_case (Planned x v (push_table x v)) (counts_hold x)
      (λ c. let f = counts_facts x c in
      go_on (λ broken. broken (counts_rule x c))
      (when_case (Planned x v (from10 x v)) (eqb (segments_of x) 0)
      (λ e. let z = eqb-true (segments_of x) 0 e in
      go_on (λ d. omega arith) (go_on (λ d. omega arith) (segment_decided c (inl z))))
      (λ e. let z = eqb-false (segments_of x) 0 e in
      when_case (Planned x v (from10 x v)) (ltb (last_of x) (widths_of x))
      (λ t. next_decided c (omega arith, ltb-true (last_of x) (widths_of x) t))
      (λ t. first_decided c (omega arith, ltb-false (last_of x) (widths_of x) t)))))
      (λ c. stop ((counts_broken x).1 c))

  -- 1 and 2 never meet: below the base need is m, and a width that is not damaged holds it
  pub below_alone : CountsRule x → ((last_damaged x).says → ⊥) → (below x v).says → SegmentDue x v → ⊥
  below_alone c good b (inl z) = omega arith
  below_alone c good b (inr s) =
      let one = c.minimum in let none_left : v - base x (last_of x) ≡ 0 = omega arith in let over = rw none_left at s.1 in
      good (s.0, inl (omega arith))
