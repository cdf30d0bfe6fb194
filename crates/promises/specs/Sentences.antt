-- What "given exactly when" and "the first in order" mean, of any list of sentences.
use Rattle.std.specs.Prelude.{ℕ, List, [], ◌∷◌, ◌↔◌, ◌⊎◌, ◌≡◌}
use Rattle.rules.specs.Words.{Answer, value, refused}

-- a sentence of the table: a refusal's number, and what must hold for it to apply
pub record Sentence : Type 1 where
  pub number : ℕ
  pub says : Type 0

-- the sentence "number e applies if this holds"
infixl 68 ◌if◌
abbrev pub ◌if◌ : ℕ → Type 0 → Sentence
e if holds = record { number = e; says = holds }

-- where several apply, the first in order is given: e is the number of a sentence that applies, and none before it does
abbrev pub Given : List Sentence → ℕ → Type 0
Given [] e = ⊥
Given (s ∷ rest) e = (s.says × (e ≡ s.number)) ⊎ ((s.says → ⊥) × Given rest e)

-- no sentence applies
abbrev pub None : List Sentence → Type 0
None [] = Unit
None (s ∷ rest) = (s.says → ⊥) × None rest

-- an answer keeps to a list of sentences: it is refused e exactly when e is given, and a value exactly when no sentence applies
pub record Exactly {A : Type 0} (sentences : List Sentence) (answer : Answer A) : Type 0 where
  pub refuses : (e : ℕ) → (answer ≡ refused e) ↔ Given sentences e
  pub answers : ((v : A) × (answer ≡ value v)) ↔ None sentences
