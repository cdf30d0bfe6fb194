-- Exactly when, of the code's own answers: a refusal has a number of its own, so what is shown of the rule holds of whatever meets the promise.
use Prim.Native.Nat.{ℕ, ◌<◌}
use mathlib.Core.List.{List}
use mathlib.Core.Logic.{◌↔◌}
use mathlib.Core.Path.{◌≡◌, refl, sym, ap, ◌∙◌}
use Rattle.std.specs.Prelude.{Err}
use Rattle.std.specs.declared.result.Result.{Result}
use Rattle.std.specs.declared.option.Option.{Option}
use Rattle.rules.specs.declared.Cursor.{Cursor}
use Rattle.rules.specs.declared.Refusal.{Refusal}
use Rattle.rules.specs.declared.Stayed.{Stayed}
use Rattle.rules.specs.declared.Target.{Target}
use Rattle.rules.specs.Words.{Answer, refused}
use Rattle.rules.specs.Record.{Index}
use Rattle.rules.specs.Push.{outcome, push_rule}
use Rattle.rules.specs.Reading.{Span, Stepped, ranged, stays, range_rule, step_rule, left_by}
use Rattle.rules.specs.Refusals.{number_of, answer_of, target_of, step_of}
use Rattle.promises.specs.Sentences.{Sentence, Given, Exactly}
use Rattle.promises.specs.Table.{push_table, get_table, range_table}
use Rattle.promises.specs.Outcomes.{One, PushLeft, push_says, push_unchanged, RangeLeft, range_says, range_unchanged, step_unchanged, NextLeft, next_says, next_rule, next_unchanged}
use Rattle.promises.proofs.Deciding.{exactly}
use Rattle.promises.proofs.Push.{push_decided}
use Rattle.promises.proofs.Reading.{range_decided}
use Rattle.promises.proofs.Steps.{step_decided}
use Rattle.promises.proofs.One.{one_answer, one_targeted, one_stepped, one_walked, one_pushed, one_ranged}
use Rattle.promises.proofs.Stays.{push_refused, range_refused}

-- an outcome is the refusal exactly when its number e is given: where the rule refuses e, the rule is what the refusal says
refuses : {A S C : Type 0} {t : List Sentence} (says : C → S) (answer_in : S → Answer A) {rule : S} (refusal : C) (e : ℕ)
    → One says (says refusal) → answer_in (says refusal) ≡ refused e → (answer_in rule ≡ refused e → rule ≡ says refusal)
    → Exactly t (answer_in rule) → (c : C) → says c ≡ rule → (c ≡ refusal) ↔ Given t e
refuses says answer_in refusal e single q as-was exact c promise = (
  λ h. (exact.refuses e).0 (ap answer_in (sym promise ∙ ap says h) ∙ q),
  λ g. single c refusal (promise ∙ as-was ((exact.refuses e).1 g)) refl,
)

module _ {t : List Sentence} (e : Refusal) where
  -- opening an index or a walk, and a call for one number
  pub answer_refuses : {A : Type 0} {rule : Answer A} → Exactly t rule → (c : Result A Refusal) → answer_of c ≡ rule → (c ≡ Err e) ↔ Given t (number_of e)
  answer_refuses = refuses answer_of (λ a. a) (Err e) (number_of e) (one_answer _) refl (λ q. q)

  -- target_range
  pub target_refuses : {rule : Answer Span} → Exactly t rule → (c : Result Target Refusal) → target_of c ≡ rule → (c ≡ Err e) ↔ Given t (number_of e)
  target_refuses = refuses target_of (λ a. a) (Err e) (number_of e) (one_targeted _) refl (λ q. q)

-- a push: the refusal comes with the state and every entry of the five tables as they were
pub push_refuses : (x : Index) (v : ℕ) (e : Refusal) (c : PushLeft) → push_says c ≡ push_rule x v → (c ≡ push_unchanged x e) ↔ Given (push_table x v) (number_of e)
push_refuses x v e =
    refuses push_says (λ o. o.answer) (push_unchanged x e) (number_of e) (one_pushed _) refl
    (λ q. ap (λ a. outcome a (push_rule x v).left) q ∙ ap (outcome (refused (number_of e))) (push_refused x v (number_of e) q))
    (exactly (push_decided x v))

-- get_range: the refusal comes with every entry of the output as it was
pub range_refuses : (x : Index) (a b : ℕ) (out : List ℕ) (e : Refusal) (c : RangeLeft) → range_says c ≡ range_rule x a b out
    → (c ≡ range_unchanged out e) ↔ Given (range_table x a b out) (number_of e)
range_refuses x a b out e =
    refuses range_says (λ r. r.answer) (range_unchanged out e) (number_of e) (one_ranged _) refl
    (λ q. ap (λ r. ranged r (range_rule x a b out).left) q ∙ ap (ranged (refused (number_of e))) (range_refused x a b out (number_of e) q))
    (exactly (range_decided x a b out))

-- a step: the refusal comes with the cursor as it was
pub step_refuses : (x : Index) (c : Cursor) (e : Refusal) (r : Result (Option (ℕ × Cursor)) Stayed) → step_of r ≡ step_rule x c
    → (r ≡ Err (step_unchanged c e)) ↔ ((c.next < c.end) × Given (get_table x c.next) (number_of e))
step_refuses x c e r promise = (
  λ h. ((step_decided x c).refuses (number_of e)).0 (sym promise ∙ ap step_of h),
  λ g. one_stepped (stays (number_of e) c) r (Err (step_unchanged c e)) (promise ∙ ((step_decided x c).refuses (number_of e)).1 g) refl,
)

-- a step of a lent cursor: the refusal leaves the cursor as it was
pub next_refuses : (x : Index) (c : Cursor) (e : Refusal) (n : NextLeft) → next_says n ≡ next_rule x c
    → (n ≡ next_unchanged c e) ↔ ((c.next < c.end) × Given (get_table x c.next) (number_of e))
next_refuses x c e n promise = (
  λ h. ((step_decided x c).refuses (number_of e)).0 (ap (λ (p : Stepped × Cursor). p.0) (sym promise ∙ ap next_says h)),
  λ g. one_walked (next_says (next_unchanged c e)) n (next_unchanged c e)
      (promise ∙ ap (λ (s : Stepped). (s, left_by c s)) (((step_decided x c).refuses (number_of e)).1 g)) refl,
)
