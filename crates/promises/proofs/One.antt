-- No second answer fits: whatever a promise says of an outcome, the outcome can be had back from it.
use Prim.Native.Nat.{ℕ}
use mathlib.Core.Path.{◌≡◌, refl, sym, ap, ◌∙◌}
use lib.Dec.{eqb}
use Rattle.std.specs.Prelude.{Ok, Err, Some, None}
use Rattle.std.specs.declared.result.Result.{Result}
use Rattle.std.specs.declared.option.Option.{Option}
use Rattle.rules.specs.declared.Cursor.{Cursor}
use Rattle.rules.specs.declared.Refusal.{Refusal}
use Rattle.rules.specs.declared.Refusal.TheVariants.{Below, SegmentRoom, WidthRoom, DataRoom, Position, RangeEnd, Reversed, OutputRoom, Counts, Damaged, Minimum}
use Rattle.rules.specs.declared.Stayed.{Stayed}
use Rattle.rules.specs.declared.Target.{Target}
use Rattle.rules.specs.declared.Letter as code-letter
use Rattle.rules.specs.declared.Flaw.{Flaw}
use Rattle.rules.specs.Words.{when, Answer, value, refused}
use Rattle.rules.specs.Push.{Outcome}
use Rattle.rules.specs.Reading.{Span, Ranged, Stepped, done, gave, stays}
use Rattle.rules.specs.Refusals.{number_of, answer_of, target_of, step_of, stepped_to}
use Rattle.rules.specs.Audit.{Letter, A, B, C, D, E, F, Verdict, well_formed, flaw, letter_of, verdict_of}
use Rattle.promises.specs.Outcomes.{One, PushLeft, push_says, RangeLeft, range_says, NextLeft, next_says}

-- where an outcome can be had back from what is said of it, one outcome fits
one : {C S : Type 0} (says : C → S) (back : S → C) (rule : S) → ((c : C) → back (says c) ≡ c) → One says rule
one says back rule same a b p q = sym (same a) ∙ ap back (p ∙ sym q) ∙ same b

-- the refusal of a number
abbrev refusal_of : ℕ → Refusal
refusal_of n =
    when (eqb n 1) Below (when (eqb n 2) SegmentRoom (when (eqb n 3) WidthRoom (when (eqb n 4) DataRoom (when (eqb n 5) Position
    (when (eqb n 6) RangeEnd (when (eqb n 7) Reversed (when (eqb n 8) OutputRoom (when (eqb n 9) Counts (when (eqb n 10) Damaged Minimum)))))))))

-- each refusal has a number of its own
same_refusal : (e : Refusal) → refusal_of (number_of e) ≡ e
same_refusal Below = refl
same_refusal SegmentRoom = refl
same_refusal WidthRoom = refl
same_refusal DataRoom = refl
same_refusal Position = refl
same_refusal RangeEnd = refl
same_refusal Reversed = refl
same_refusal OutputRoom = refl
same_refusal Counts = refl
same_refusal Damaged = refl
same_refusal Minimum = refl

-- what the code answered, had back from what is said of it
abbrev answered : {A : Type 0} → Answer A → Result A Refusal
answered (value a) = Ok a
answered (refused e) = Err (refusal_of e)

-- each answer of the code is had back
same_answer : {A : Type 0} (c : Result A Refusal) → answered (answer_of c) ≡ c
same_answer (Ok a) = refl
same_answer (Err e) = rw (same_refusal e)

-- the code's letter for a letter
abbrev to_letter : Letter → code-letter.Letter
to_letter A = code-letter.Letter.A
to_letter B = code-letter.Letter.B
to_letter C = code-letter.Letter.C
to_letter D = code-letter.Letter.D
to_letter E = code-letter.Letter.E
to_letter F = code-letter.Letter.F

-- each letter has its own in the code
same_letter : (c : code-letter.Letter) → to_letter (letter_of c) ≡ c
same_letter code-letter.Letter.A = refl
same_letter code-letter.Letter.B = refl
same_letter code-letter.Letter.C = refl
same_letter code-letter.Letter.D = refl
same_letter code-letter.Letter.E = refl
same_letter code-letter.Letter.F = refl

-- opening an index or a walk, and a call for one number
pub one_answer : {A : Type 0} (rule : Answer A) → One answer_of rule
one_answer rule = one answer_of answered rule same_answer

-- a push: its answer, its state and every entry of the five tables
pub one_pushed : (rule : Outcome) → One push_says rule
one_pushed rule = one push_says back rule (λ c. rw (same_answer c.answer))
  where
    back : Outcome → PushLeft
    back o = record { answer = answered o.answer; left = o.left }

-- get_range: its answer and every entry of the output
pub one_ranged : (rule : Ranged) → One range_says rule
one_ranged rule = one range_says back rule (λ c. rw (same_answer c.answer))
  where
    back : Ranged → RangeLeft
    back r = record { answer = answered r.answer; out = r.left }

-- target_range
pub one_targeted : (rule : Answer Span) → One target_of rule
one_targeted rule = one target_of back rule same
  where
    back : Answer Span → Result Target Refusal
    back (value s) = Ok (record { start = s.from; end = s.to })
    back (refused e) = Err (refusal_of e)

    same : (c : Result Target Refusal) → back (target_of c) ≡ c
    same (Ok r) = refl
    same (Err e) = rw (same_refusal e)

-- a step: its answer and its cursor
pub one_stepped : (rule : Stepped) → One step_of rule
one_stepped rule = one step_of back rule same
  where
    back : Stepped → Result (Option (ℕ × Cursor)) Stayed
    back done = Ok None
    back (gave v c) = Ok (Some (v, c))
    back (stays e c) = Err (record { cursor = c; refusal = refusal_of e })

    same : (r : Result (Option (ℕ × Cursor)) Stayed) → back (step_of r) ≡ r
    same (Ok None) = refl
    same (Ok (Some p)) = refl
    same (Err s) = rw (same_refusal s.refusal)

-- a step of a lent cursor: its answer, and the cursor
pub one_walked : (rule : Stepped × Cursor) → One next_says rule
one_walked rule = one next_says back rule (λ n. same n.cursor n.answer)
  where
    answer : Stepped → Result (Option ℕ) Refusal
    answer done = Ok None
    answer (gave v c) = Ok (Some v)
    answer (stays e c) = Err (refusal_of e)

    back : Stepped × Cursor → NextLeft
    back p = record { answer = answer p.0; cursor = p.1 }

    same : (c : Cursor) (r : Result (Option ℕ) Refusal) → back (stepped_to c r, c) ≡ record { answer = r; cursor = c }
    same c (Ok None) = refl
    same c (Ok (Some v)) = refl
    same c (Err e) = rw (same_refusal e)

-- the audit: well formed, or a letter and a segment
pub one_judged : (rule : Verdict) → One verdict_of rule
one_judged rule = one verdict_of back rule same
  where
    back : Verdict → Result Unit Flaw
    back well_formed = Ok tt
    back (flaw l k) = Err (record { letter = to_letter l; segment = k })

    same : (c : Result Unit Flaw) → back (verdict_of c) ≡ c
    same (Ok u) = refl
    same (Err f) = rw (same_letter f.letter)
