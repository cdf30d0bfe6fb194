-- One look at an answer decides it: a value says that no sentence applies, a refusal that its number is given. Both directions follow.
use Prim.Native.Nat.{ℕ, ◌≤◌, ◌<◌}
use mathlib.Core.List.{List, [], ◌∷◌}
use mathlib.Core.Logic.{◌⊎◌, inl, inr, ⊎_elim}
use mathlib.Core.Path.{◌≡◌, refl, sym, ◌∙◌}
use native.Mathlib.Omega.{arith}
use lib.Dec.{leb, ltb, eqb}
use borrow.Author.Tests.{leb-true, leb-false, ltb-true, ltb-false, eqb-true, eqb-false}
use Rattle.rules.specs.Words.{when, Answer, value, refused, and_then, Test, Facts, when_all}
use Rattle.rules.specs.Reading.{before}
use Rattle.laws.proofs.Tests.{by_test, when_case, when_all_case}
use Rattle.promises.specs.Sentences.{Sentence, ◌if◌, Given, None, Exactly}
use Rattle.promises.specs.Table.{Outside}

-- what an answer says of a list of sentences: a value that none applies, a refusal that its number is given
pub data Decided {A : Type 0} (t : List Sentence) : Answer A → Type 0 where
  none : {v : A} → None t → Decided t (value v)
  given : {e : ℕ} → Given t e → Decided t (refused e)

-- only one number is given
pub one_given : (t : List Sentence) (d e : ℕ) → Given t d → Given t e → d ≡ e
one_given [] d e g h = absurd g
one_given (s ∷ t) d e (inl g) (inl h) = g.1 ∙ sym h.1
one_given (s ∷ t) d e (inl g) (inr h) = absurd (h.0 g.0)
one_given (s ∷ t) d e (inr g) (inl h) = absurd (g.0 h.0)
one_given (s ∷ t) d e (inr g) (inr h) = one_given t d e g.1 h.1

-- a number is given, so some sentence applies
pub some_given : (t : List Sentence) (e : ℕ) → Given t e → None t → ⊥
some_given [] e g n = g
some_given (s ∷ t) e (inl g) n = n.0 g.0
some_given (s ∷ t) e (inr g) n = some_given t e g.1 n.1

-- an answer that is decided keeps to the sentences
pub exactly : {A : Type 0} {t : List Sentence} {a : Answer A} → Decided t a → Exactly t a
exactly {t} (none {v} n) = record {
  refuses = λ e. (λ q. cc, λ g. absurd (some_given t e g n));
  answers = (λ a. n, λ m. (v, refl));
}
exactly {t} (given {e = d} g) = record {
  refuses = λ e. (λ q. let n : d ≡ e = cc in rw n at g, λ h. rw (one_given t d e g h));
  answers = (λ a. cc (a.1), λ m. absurd (some_given t d g m));
}

-- the first sentence applies
pub stop : {A : Type 0} {s : Sentence} {t : List Sentence} → s.says → Decided {A = A} (s ∷ t) (refused s.number)
stop h = given (inl (h, refl))

-- the first sentence does not apply: the others decide
pub go_on : {A : Type 0} {s : Sentence} {t : List Sentence} {a : Answer A} → (s.says → ⊥) → Decided t a → Decided (s ∷ t) a
go_on never (none n) = none (never, n)
go_on never (given g) = given (inr (never, g))

-- the only sentence does not apply
pub pass : {A : Type 0} {s : Sentence} {v : A} → (s.says → ⊥) → Decided (s ∷ []) (value v)
pass never = none (never, tt)

-- the same fact in other words
pub reworded : {A : Type 0} {e : ℕ} {S T : Type 0} {a : Answer A} → (S → T) → (T → S) → Decided (e if S ∷ []) a → Decided (e if T ∷ []) a
reworded f g (none n) = pass (λ t. n.0 (g t))
reworded f g (given (inl d)) = given (inl (f d.0, d.1))
reworded f g (given (inr d)) = absurd d.1

-- an answer and what its value goes on to: one of the two applies
pub then_decided : {A B : Type 0} {e : ℕ} {S T : Type 0} {a : Answer A} (f : A → Answer B)
    → Decided (e if S ∷ []) a → ((v : A) → Decided (e if T ∷ []) (f v)) → Decided (e if (S ⊎ T) ∷ []) (and_then a f)
then_decided f (none {v} n) k = reworded inr (⊎_elim (λ s. absurd (n.0 s)) (λ t. t)) (k v)
then_decided f (given (inl d)) k = given (inl (inl d.0, d.1))
then_decided f (given (inr d)) k = absurd d.1

-- a value turned into another: the same sentences decide
pub value_decided : {A B : Type 0} {t : List Sentence} {a : Answer A} (f : A → B) → Decided t a → Decided t (and_then a (λ v. value (f v)))
value_decided f (none n) = none n
value_decided f (given g) = given g

-- a value in front of further ones: one of the two applies
pub before_decided : {e : ℕ} {S T : Type 0} {a : Answer ℕ} {b : Answer (List ℕ)}
    → Decided (e if S ∷ []) a → Decided (e if T ∷ []) b → Decided (e if (S ⊎ T) ∷ []) (before a b)
before_decided (none n) (none m) = pass (⊎_elim n.0 m.0)
before_decided (none n) (given (inl d)) = given (inl (inr d.0, d.1))
before_decided (none n) (given (inr d)) = absurd d.1
before_decided (given (inl d)) k = given (inl (inl d.0, d.1))
before_decided (given (inr d)) k = absurd d.1

-- a choice is decided where both its sides are, each under what its test says
module _ {A : Type 0} {t : List Sentence} {p q : Answer A} where
  -- the test a < b
  pub by_lt : (a b : ℕ) → (a < b → Decided t p) → (b ≤ a → Decided t q) → Decided t (when (ltb a b) p q)
  by_lt a b f g = when_case (Decided t) (ltb a b) (λ e. f (ltb-true a b e)) (λ e. g (ltb-false a b e))

  -- the test a ≤ b
  pub by_le : (a b : ℕ) → (a ≤ b → Decided t p) → (b < a → Decided t q) → Decided t (when (leb a b) p q)
  by_le a b f g = when_case (Decided t) (leb a b) (λ e. f (leb-true a b e)) (λ e. g (leb-false a b e))

  -- the test a ≡ b
  pub by_eq : (a b : ℕ) → (a ≡ b → Decided t p) → ((a ≡ b → ⊥) → Decided t q) → Decided t (when (eqb a b) p q)
  by_eq a b f g = when_case (Decided t) (eqb a b) (λ e. f (eqb-true a b e)) (λ e. g (eqb-false a b e))

  -- a list of tests
  pub by_all : (ts : List Test) → (Facts ts → Decided t p) → ((Facts ts → ⊥) → Decided t q) → Decided t (when_all ts p q)
  by_all ts f g = when_all_case (Decided t) ts f g

-- either a is above b, or what follows from a at most b
pub or_else : (a b : ℕ) {Q : Type 0} → (a ≤ b → Q) → (b < a) ⊎ Q
or_else a b f = by_test (leb a b) (λ t. inr (f (leb-true a b t))) (λ t. inl (leb-false a b t))

-- either a width is outside m to 8, or what follows from its being within
pub or_outside : (m w : ℕ) {Q : Type 0} → (m ≤ w → w ≤ 8 → Q) → Outside m w ⊎ Q
or_outside m w f = ⊎_elim (λ l. inl (inl l)) (⊎_elim (λ l. inl (inr l)) inr) (or_else m w (λ l. or_else w 8 (f l)))

-- a width within m to 8 is not outside
pub within : (m w : ℕ) → m ≤ w → w ≤ 8 → Outside m w → ⊥
within m w l h = ⊎_elim (λ b. omega arith) (λ b. omega arith)

-- what is at most b is b, or what follows from its being below
pub full_or : (a b : ℕ) {Q : Type 0} → a ≤ b → (a < b → Q) → (a ≡ b) ⊎ Q
full_or a b l f = by_test (ltb a b) (λ t. inr (f (ltb-true a b t))) (λ t. let h = ltb-false a b t in inl (omega arith))
