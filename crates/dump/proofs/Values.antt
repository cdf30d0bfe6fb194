-- What feeding means for whole inputs: values pushed up to the first refusal, a tail of the input's length modulo 8,
-- a refusal's number that counts the values before it, and no number kept but a refusal's.
use Prim.Native.Nat.{ℕ, ◌+◌, ◌%◌, ◌^◌, ◌<◌}
use mathlib.Core.List.{List, [], ◌∷◌, ◌++◌}
use mathlib.Core.Path.{◌≡◌, refl, sym, ap, ◌∙◌}
use native.Mathlib.Omega.{arith}
use lib.Dec.{ltb, eqb, lit<}
use lib.ListN.{length}
use borrow.Author.Tests.{eqb-true, eqb-false, ltb-true, ltb-false, ne_eqb}
use Rattle.std.specs.declared.result.Result.{Result}
use Rattle.std.specs.declared.option.Option.{Option}
use Rattle.std.specs.Prelude.{Ok, Err, Some, None, not}
use Rattle.std.specs.Option.{is_some}
use Rattle.std.specs.Result.{result_err}
use Rattle.rules.specs.declared.Refusal.{Refusal}
use Rattle.rules.specs.declared.Refusal.TheVariants.{Below, SegmentRoom, WidthRoom, DataRoom, Position, RangeEnd, Reversed, OutputRoom, Counts, Damaged, Minimum}
use Rattle.rules.specs.Record.{Index, length_of, segments_of, widths_of, last_of, room_of, counts_hold}
use Rattle.rules.specs.Push.{delta_at, Outcome, outcome, Plan, refuse, segment, first, more, segment_plan, first_plan, next_plan, plan_of, effect, push_rule}
use Rattle.rules.specs.Refusals.{number_of, answer_of}
use Rattle.laws.proofs.Tests.{by_test, when_case, when_all_case}
use Rattle.laws.proofs.Bytes.{delta_stored}
use Rattle.dump.specs.Feeding.{Fed, fed, with_byte, refusal_of, value_rule, byte_rule, feed_rule, bytes_of, push_all}
use Rattle.dump.proofs.Pieces.{value_fed, pushed}

-- nothing is taken after a refusal
pub feed_ended : (f : Fed) (bs : List ℕ) → (f.refusal ≡ 0 → ⊥) → feed_rule f bs ≡ f
unfolding feed_rule byte_rule
feed_ended f [] h = refl
feed_ended f (b ∷ bs) h = rw (ne_eqb f.refusal 0 h, byte_rule) (feed_ended f bs h)

-- nor is a whole value
push_ended : (f : Fed) (vs : List ℕ) → (f.refusal ≡ 0 → ⊥) → push_all f vs ≡ f
unfolding push_all
push_ended f [] h = refl
push_ended f (v ∷ vs) h = rw (ne_eqb f.refusal 0 h, push_all)

-- all values are 64-bit numbers
abbrev pub Fit : List ℕ → Type 0
Fit [] = Unit {0}
Fit (v ∷ vs) = (v < 2 ^ 64) × Fit vs

-- the bytes of values push those values, up to the first refusal
pub values_fed : (vs : List ℕ) → Fit vs → (x : Index) (r : ℕ) → feed_rule (fed x 0 0 r) (bytes_of vs) ≡ push_all (fed x 0 0 r) vs
unfolding feed_rule push_all delta_at
values_fed [] a x r = refl
values_fed (v ∷ vs) a x r =
    by_test (eqb r 0)
    (λ t.
    let z = eqb-true r 0 t in
    rw z (value_fed x _ _ _ _ _ _ _ _ (bytes_of vs)
    ∙ ap (λ u. feed_rule (value_rule x u) (bytes_of vs)) (delta_stored 8 v 0 (0 ∷ 0 ∷ 0 ∷ 0 ∷ 0 ∷ 0 ∷ 0 ∷ 0 ∷ []) (omega arith) a.0)
    ∙ values_fed vs a.1 (push_rule x v).left (refusal_of (push_rule x v).answer)))
    (λ t.
    let h = eqb-false r 0 t in
    feed_ended (fed x 0 0 r) (bytes_of (v ∷ vs)) h ∙ sym (push_ended (fed x 0 0 r) (v ∷ vs) h))

-- without a refusal, the bytes left over are as many as the input's length modulo 8
pub feed_tail : (bs : List ℕ) (f : Fed) → f.count < 8 → (feed_rule f bs).refusal ≡ 0 → (feed_rule f bs).count ≡ (f.count + length bs) % 8
unfolding feed_rule byte_rule
feed_tail [] f h e = omega arith
feed_tail (b ∷ bs) f h e =
    by_test (eqb f.refusal 0)
    (λ t. by_test (ltb f.count 7)
    (λ u.
    let less = ltb-true f.count 7 u in
    let rest = feed_tail bs (byte_rule f b) (rw (t, u, byte_rule) (omega arith)) e in
    rest ∙ rw (t, u, byte_rule) (omega arith))
    (λ u.
    let most = ltb-false f.count 7 u in
    let rest = feed_tail bs (byte_rule f b) (rw (t, u, byte_rule) (omega arith)) e in
    rest ∙ rw (t, u, byte_rule) (omega arith)))
    (λ t.
    let never = eqb-false f.refusal 0 t in
    absurd (never (rw (feed_ended f (b ∷ bs) never) at e)))

-- the number of a refusal, 0 for none
abbrev pub number_or_none : Option Refusal → ℕ
number_or_none None = 0
number_or_none (Some e) = number_of e

-- such a number
abbrev pub Named : ℕ → Type 0
Named n = (o : Option Refusal) × (number_or_none o ≡ n)

-- a refusal's number is above 0
number_above : (e : Refusal) → 0 < number_of e
number_above Below = lit< tt
number_above SegmentRoom = lit< tt
number_above WidthRoom = lit< tt
number_above DataRoom = lit< tt
number_above Position = lit< tt
number_above RangeEnd = lit< tt
number_above Reversed = lit< tt
number_above OutputRoom = lit< tt
number_above Counts = lit< tt
number_above Damaged = lit< tt
number_above Minimum = lit< tt

-- so it is 0 just where there is none
pub named_kept : (o : Option Refusal) → eqb (number_or_none o) 0 ≡ not (is_some o)
named_kept None = refl
named_kept (Some e) = ne_eqb (number_of e) 0 (λ z. absurd (omega (arith, number_above e)))

-- the refusal of a push that the code makes is the one that the rule carries
pub named_pushed : (r : Result ℕ Refusal) (x : Index) (o : Outcome) → outcome (answer_of r) x ≡ o → fed x 0 0 (number_or_none (result_err r)) ≡ fed o.left 0 0 (refusal_of o.answer)
named_pushed (Ok p) x o e = pushed (Ok p) x o 0 e refl
named_pushed (Err n) x o e = pushed (Err n) x o (number_of n) e refl

-- a plan refuses by a refusal's number
abbrev Numbered : Plan → Type 0
Numbered (refuse e) = (0 < e) × Named e
Numbered segment = Unit {0}
Numbered (first d n) = Unit {0}
Numbered (more d w) = Unit {0}

-- each refusal's number will do
refusal_numbered : (e : Refusal) → Numbered (refuse (number_of e))
refusal_numbered e = (number_above e, (Some e, refl))

module _ (x : Index) where
  -- a new segment's
  segment_numbered : Numbered (segment_plan x.state (room_of x))
  unfolding segment_plan
  segment_numbered = when_all_case Numbered _ (λ f. tt) (λ f. refusal_numbered SegmentRoom)

  -- a first delta's
  first_numbered : (base v : ℕ) → Numbered (first_plan x.state (room_of x) base v)
  unfolding first_plan
  first_numbered base v =
      when_all_case Numbered _
      (λ f. when_all_case Numbered _ (λ g. when_all_case Numbered _ (λ h. tt) (λ h. refusal_numbered DataRoom)) (λ g. refusal_numbered WidthRoom))
      (λ f. refusal_numbered Below)

  -- a further delta's
  next_numbered : (base width v : ℕ) → Numbered (next_plan x.state (room_of x) base width v)
  unfolding next_plan
  next_numbered base width v =
      when_all_case Numbered _
      (λ f. when_all_case Numbered _
      (λ g. when_all_case Numbered _ (λ h. when_all_case Numbered _ (λ i. tt) (λ i. refusal_numbered DataRoom)) (λ h. segment_numbered))
      (λ g. refusal_numbered Below))
      (λ f. refusal_numbered Damaged)

  -- and a push's
  plan_numbered : (v : ℕ) → Numbered (plan_of x v)
  unfolding plan_of
  plan_numbered v =
      when_case Numbered (counts_hold x)
      (λ c. when_case Numbered (eqb (segments_of x) 0) (λ e. segment_numbered)
      (λ e. when_case Numbered (ltb (last_of x) (widths_of x)) (λ w. next_numbered _ _ v) (λ w. first_numbered _ v)))
      (λ c. refusal_numbered Counts)

-- what a plan does keeps no number but a refusal's
effect_named : (x : Index) (v : ℕ) (p : Plan) → Numbered p → Named (refusal_of (effect x v p).answer)
effect_named x v (refuse e) n = n.1
effect_named x v segment n = (None, refl)
effect_named x v (first d w) n = (None, refl)
effect_named x v (more d w) n = (None, refl)

-- nor does a byte
byte_named : (f : Fed) (b : ℕ) → Named f.refusal → Named (byte_rule f b).refusal
unfolding byte_rule push_rule
byte_named f b h =
    let x = f.index in
    let v = with_byte f.partial b in
    when_case (λ (g : Fed). Named g.refusal) (eqb f.refusal 0)
    (λ t. when_case (λ (g : Fed). Named g.refusal) (ltb f.count 7) (λ u. (None, refl)) (λ u. effect_named x v (plan_of x v) (plan_numbered x v)))
    (λ t. h)

-- nor a piece
pub feed_named : (bs : List ℕ) (f : Fed) → Named f.refusal → Named (feed_rule f bs).refusal
unfolding feed_rule
feed_named [] f h = h
feed_named (b ∷ bs) f h = feed_named bs (byte_rule f b) (byte_named f b h)

-- what a plan does to the length: one more where it is not a refusal
effect_length : (x : Index) (v : ℕ) (p : Plan) → Numbered p → refusal_of (effect x v p).answer ≡ 0 → length_of (effect x v p).left ≡ length_of x + 1
effect_length x v (refuse e) n h = absurd (omega arith)
effect_length x v segment n h = refl
effect_length x v (first d w) n h = refl
effect_length x v (more d w) n h = refl

-- a value that is taken raises the length by one
pub taken_one : (x : Index) (v : ℕ) → (value_rule x v).refusal ≡ 0 → length_of (value_rule x v).index ≡ length_of x + 1
unfolding push_rule
taken_one x v h = effect_length x v (plan_of x v) (plan_numbered x v) h

-- values that are all taken raise it by their number; so the value refused after them has the length as its number, counted from 0
pub taken_all : (vs : List ℕ) (f : Fed) → (push_all f vs).refusal ≡ 0 → length_of (push_all f vs).index ≡ length_of f.index + length vs
unfolding push_all
taken_all [] f h = omega arith
taken_all (v ∷ vs) f h =
    by_test (eqb f.refusal 0)
    (λ t.
    let g = value_rule f.index v in
    let h' : (push_all g vs).refusal ≡ 0 = rw (t, push_all) at h in
    by_test (eqb g.refusal 0)
    (λ u.
    let one = taken_one f.index v (eqb-true g.refusal 0 u) in
    rw (t, push_all) (taken_all vs g h' ∙ omega arith))
    (λ u.
    let never = eqb-false g.refusal 0 u in
    absurd (never (rw (push_ended g vs never) at h'))))
    (λ t.
    let never = eqb-false f.refusal 0 t in
    absurd (never (rw (push_ended f (v ∷ vs) never) at h)))

-- a value that is refused leaves the index as it was
effect_refused : (x : Index) (v : ℕ) (p : Plan) → (refusal_of (effect x v p).answer ≡ 0 → ⊥) → (effect x v p).left ≡ x
effect_refused x v (refuse e) h = refl
effect_refused x v segment h = absurd (h refl)
effect_refused x v (first d w) h = absurd (h refl)
effect_refused x v (more d w) h = absurd (h refl)

-- pushing two lists of values is pushing them as one
push_joined : (us vs : List ℕ) (f : Fed) → push_all f (us ++ vs) ≡ push_all (push_all f us) vs
unfolding push_all
push_joined [] vs f = refl
push_joined (u ∷ us) vs f =
    by_test (eqb f.refusal 0)
    (λ t. rw (t, push_all) (push_joined us vs (value_rule f.index u)))
    (λ t. rw (t, push_all) (sym (push_ended f vs (eqb-false f.refusal 0 t))))

-- where the values us are taken and v after them is refused, the length left is the number of v among the values, counted from 0
pub refused_number : (us vs : List ℕ) (v : ℕ) (x : Index) → (push_all (fed x 0 0 0) us).refusal ≡ 0
    → ((value_rule (push_all (fed x 0 0 0) us).index v).refusal ≡ 0 → ⊥)
    → length_of (push_all (fed x 0 0 0) (us ++ (v ∷ vs))).index ≡ length_of x + length us
unfolding push_all push_rule
refused_number us vs v x h never =
    let f = fed x 0 0 0 in
    let y = (push_all f us).index in
    let ended = push_ended (value_rule y v) vs never in
    let stays = effect_refused y v (plan_of y v) never in
    rw (push_joined us (v ∷ vs) f, h, push_all, ended, stays) (taken_all us f h)
