-- What a C caller sees of a call: a number that is 0 where it is answered, and what stands behind the pointers afterwards.
use Rattle.std.specs.Prelude.{ℕ}
use Rattle.rules.specs.declared.Cursor.{Cursor}
use Rattle.rules.specs.Words.{Answer, value, refused}
use Rattle.rules.specs.Reading.{Stepped, done, gave, stays}
use Rattle.rules.specs.Audit.{letter_number, Verdict, well_formed, flaw}

-- 0 or a refusal's number, and what stands behind the pointers
pub record Told (A : Type 0) : Type 0 where
  pub number : ℕ
  pub behind : A

-- the two together
abbrev pub told : {A : Type 0} → ℕ → A → Told A
told n a = record { number = n; behind = a }

-- an answer is 0 and its value; a refusal is its number, and what stood behind the pointers stays
abbrev pub telling : {A : Type 0} → Answer A → A → Told A
telling (value a) old = told 0 a
telling (refused e) old = told e old

-- what stands behind a step's pointers: the cursor, the value, and 1 where the walk is done, else 0
pub record Walked : Type 0 where
  pub at : Cursor
  pub item : ℕ
  pub ended : ℕ

-- the three together
abbrev pub walked : Cursor → ℕ → ℕ → Walked
walked c v d = record { at = c; item = v; ended = d }

-- done writes 1 and nothing else; a value writes 0, itself and the moved cursor; a refusal writes nothing
abbrev pub step_telling : Stepped → Walked → Told Walked
step_telling done old = told 0 (walked old.at old.item 1)
step_telling (gave v c) old = told 0 (walked c v 0)
step_telling (stays e c) old = told e (walked c old.item old.ended)

-- the audit's letter and segment behind the pointers; well formed is 0 and 0
pub record Found : Type 0 where
  pub letter : ℕ
  pub segment : ℕ

-- the two together
abbrev pub found : ℕ → ℕ → Found
found l k = record { letter = l; segment = k }

-- what the audit tells
abbrev pub verdict_telling : Verdict → Found
verdict_telling well_formed = found 0 0
verdict_telling (flaw l k) = found (letter_number l) k
