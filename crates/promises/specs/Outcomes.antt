-- What "no second answer fits" means, and what a push, a get_range and a step of a lent cursor leave beside their answer.
use Rattle.std.specs.Prelude.{ℕ, List, ◌≡◌, Err}
use Rattle.std.specs.declared.result.Result.{Result}
use Rattle.std.specs.declared.option.Option.{Option}
use Rattle.rules.specs.declared.Cursor.{Cursor}
use Rattle.rules.specs.declared.Refusal.{Refusal}
use Rattle.rules.specs.declared.Stayed.{Stayed}
use Rattle.rules.specs.Record.{Index}
use Rattle.rules.specs.Push.{Outcome, outcome}
use Rattle.rules.specs.Reading.{Ranged, ranged, Stepped, step_rule, left_by}
use Rattle.rules.specs.Refusals.{answer_of, stepped_to}

-- two outcomes of the code that both meet the promise `says outcome ≡ rule` are equal
abbrev pub One : {C S : Type 0} → (C → S) → S → Type 0
One {C} says rule = (a b : C) → says a ≡ rule → says b ≡ rule → a ≡ b

-- what a push answers, and the state and the five tables as it left them
pub record PushLeft : Type 0 where
  pub answer : Result ℕ Refusal
  pub left : Index

-- what a push's promise says of them
abbrev pub push_says : PushLeft → Outcome
push_says p = outcome (answer_of p.answer) p.left

-- the refusal e, with the state and every entry as they were
abbrev pub push_unchanged : Index → Refusal → PushLeft
push_unchanged x e = record { answer = Err e; left = x }

-- what get_range answers, and the output as it left it
pub record RangeLeft : Type 0 where
  pub answer : Result ℕ Refusal
  pub out : List ℕ

-- what get_range's promise says of them
abbrev pub range_says : RangeLeft → Ranged
range_says r = ranged (answer_of r.answer) r.out

-- the refusal e, with the output as it was
abbrev pub range_unchanged : List ℕ → Refusal → RangeLeft
range_unchanged out e = record { answer = Err e; out = out }

-- the refusal e of a step, with the cursor as it was
abbrev pub step_unchanged : Cursor → Refusal → Stayed
step_unchanged c e = record { cursor = c; refusal = e }

-- what a step of a lent cursor answers, and the cursor as it left it
pub record NextLeft : Type 0 where
  pub answer : Result (Option ℕ) Refusal
  pub cursor : Cursor

-- what its promise says of them: the step, and the cursor
abbrev pub next_says : NextLeft → Stepped × Cursor
next_says n = (stepped_to n.cursor n.answer, n.cursor)

-- and what these are by the rule
abbrev pub next_rule : Index → Cursor → Stepped × Cursor
next_rule x c = (step_rule x c, left_by c (step_rule x c))

-- the refusal e, with the lent cursor as it was
abbrev pub next_unchanged : Cursor → Refusal → NextLeft
next_unchanged c e = record { answer = Err e; cursor = c }
