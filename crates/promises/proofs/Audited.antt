-- The audit's verdict is the first flaw: within a segment rule by rule, then segment by segment, and there is but one first.
use Prim.Native.Nat.{ℕ, zero, suc, ◌+◌, ◌≤◌, ◌<◌}
use mathlib.Core.Bool.{true, false}
use mathlib.Core.List.{List, [], ◌∷◌}
use mathlib.Core.Logic.{◌↔◌, inl, inr, ⊎_elim}
use mathlib.Core.Path.{◌≡◌, refl, sym, ap, ◌∙◌}
use native.Mathlib.Omega.{arith}
use lib.Dec.{ltb, eqb}
use borrow.Author.Tests.{ltb-true, ltb-false, eqb-true, eqb-false}
use Rattle.rules.specs.Words.{Facts, when_all}
use Rattle.rules.specs.Record.{Index, segments_of, counts_hold}
use Rattle.rules.specs.Audit.{Letter, A, B, C, D, E, F, Verdict, well_formed, flaw, Rule, rules_of, first_flaw, or_else, audit_from, audit_rule}
use Rattle.laws.proofs.Tests.{by_test, facts_of, refuted_of}
use Rattle.promises.specs.Table.{CountsRule}
use Rattle.promises.specs.Audited.{AllHold, FirstFails, Passes, Fails, AuditExactly}
use Rattle.promises.proofs.CountsRule.{counts_rule, counts_broken}

-- what a verdict on one segment says
abbrev Judged : ℕ → List Rule → Verdict → Type 0
Judged k rs well_formed = AllHold rs
Judged k rs (flaw l j) = (j ≡ k) × FirstFails rs l

-- one rule more in front, which holds
judged_on : (k : ℕ) (r : Rule) (rs : List Rule) (v : Verdict) → Facts r.tests → Judged k rs v → Judged k (r ∷ rs) v
judged_on k r rs well_formed f j = (f, j)
judged_on k r rs (flaw l i) f j = (j.0, inr (f, j.1))

-- the rules of one segment
judged : (k : ℕ) (rs : List Rule) → Judged k rs (first_flaw k rs)
unfolding first_flaw
judged k [] = tt
judged k (r ∷ rs) =
    by_test (when_all r.tests true false)
    (λ e. rw (e, first_flaw) (judged_on k r rs (first_flaw k rs) (facts_of r.tests e) (judged k rs)))
    (λ e. rw (e, first_flaw) (refl, inl (refuted_of r.tests e, refl)))

-- what a verdict on n segments from k on says
abbrev JudgedFrom : Index → (n k : ℕ) → Verdict → Type 0
JudgedFrom x n k well_formed = (j : ℕ) → k ≤ j → j < k + n → AllHold (rules_of x j)
JudgedFrom x n k (flaw l j) = (k ≤ j) × (j < k + n) × ((i : ℕ) → k ≤ i → i < j → AllHold (rules_of x i)) × FirstFails (rules_of x j) l

-- one segment, then the others
judged_else : (x : Index) (n k : ℕ) (v w : Verdict) → Judged k (rules_of x k) v → JudgedFrom x n (suc k) w → JudgedFrom x (suc n) k (or_else v w)
judged_else x n k (flaw l j) w h g =
    let e = h.0 in (omega arith, omega arith, λ i a b. absurd (omega arith), rw (sym e) at h.1)
judged_else x n k well_formed well_formed h g = λ j a b.
    by_test (eqb j k) (λ t. rw (eqb-true j k t) h) (λ t. let other = eqb-false j k t in g j (omega arith) (omega arith))
judged_else x n k well_formed (flaw l j) h g = (
  omega arith,
  omega arith,
  λ i a b. by_test (eqb i k) (λ t. rw (eqb-true i k t) h) (λ t. let other = eqb-false i k t in g.2 i (omega arith) b),
  g.3,
)

-- all segments
judged_from : (x : Index) (n k : ℕ) → JudgedFrom x n k (audit_from x n k)
unfolding audit_from
judged_from x zero k = λ j a b. absurd (omega arith)
judged_from x (suc n) k = judged_else x n k (first_flaw k (rules_of x k)) (audit_from x n (suc k)) (judged k (rules_of x k)) (judged_from x n (suc k))

-- only one rule is the first that fails
one_first : (rs : List Rule) (l m : Letter) → FirstFails rs l → FirstFails rs m → l ≡ m
one_first [] l m f g = absurd f
one_first (r ∷ rs) l m (inl f) (inl g) = f.1 ∙ sym g.1
one_first (r ∷ rs) l m (inl f) (inr g) = absurd (f.0 g.0)
one_first (r ∷ rs) l m (inr f) (inl g) = absurd (g.0 f.0)
one_first (r ∷ rs) l m (inr f) (inr g) = one_first rs l m f.1 g.1

-- where one fails, not all hold
not_all : (rs : List Rule) (l : Letter) → FirstFails rs l → AllHold rs → ⊥
not_all [] l f a = f
not_all (r ∷ rs) l (inl f) a = f.0 a.0
not_all (r ∷ rs) l (inr f) a = not_all rs l f.1 a.1

-- well formed is no flaw
no_flaw {ℓ} : {P : Type ℓ} (l : Letter) (k : ℕ) → well_formed ≡ flaw l k → P
no_flaw l k q = let z : ◌≡◌ {A = ℕ} 0 1 = cc in absurd (omega arith)

-- a flaw has one letter and one segment
same_letter : (l m : Letter) (k j : ℕ) → flaw l k ≡ flaw m j → l ≡ m
same_letter l m k j q = cc

same_segment : (l m : Letter) (k j : ℕ) → flaw l k ≡ flaw m j → k ≡ j
same_segment l m k j q = cc

-- A beside the other letters
abbrev place : Letter → ℕ
place A = 0
place B = 1
place C = 1
place D = 1
place E = 1
place F = 1

-- no other letter is A
other : (l : Letter) → place l ≡ 1 → A ≡ l → ⊥
other l e q = let z = ap place q in omega arith

module _ (x : Index) where
  -- an index that fails does not pass
  not_both : (l : Letter) (k : ℕ) → Fails x l k → Passes x → ⊥
  not_both l k (inl f) p = f.0 p.0
  not_both l k (inr f) p = not_all (rules_of x k) l f.3 (p.1 k f.1)

  -- it fails in one way
  one_flaw : (l m : Letter) (k j : ℕ) → Fails x l k → Fails x m j → flaw l k ≡ flaw m j
  one_flaw l m k j (inl f) (inl g) = rw (f.1, f.2, g.1, g.2)
  one_flaw l m k j (inl f) (inr g) = absurd (f.0 g.0)
  one_flaw l m k j (inr f) (inl g) = absurd (g.0 f.0)
  one_flaw l m k j (inr f) (inr g) =
      by_test (ltb k j) (λ t. absurd (not_all (rules_of x k) l f.3 (g.2 k (ltb-true k j t))))
      (λ t. by_test (ltb j k) (λ u. absurd (not_all (rules_of x j) m g.3 (f.2 j (ltb-true j k u))))
      (λ u.
      let a = ltb-false k j t in let b = ltb-false j k u in let e : k ≡ j = omega arith in
      rw (e, one_first (rules_of x j) l m (rw e at f.3) g.3)))

  -- what a verdict says of the whole index
  abbrev Says : Verdict → Type 0
  Says well_formed = Passes x
  Says (flaw l k) = Fails x l k

  -- a verdict that says so keeps to the rules
  audited : (v : Verdict) → Says v → AuditExactly x v
  audited well_formed p = record {
    passes = (λ q. p, λ h. refl);
    fails = λ l k. (λ q. no_flaw l k q, λ f. absurd (not_both l k f p));
  }
  audited (flaw m j) f = record {
    passes = (λ q. no_flaw m j (sym q), λ p. absurd (not_both m j f p));
    fails = λ l k. (λ q. rw (same_letter m l j k q, same_segment m l j k q) at f, λ g. one_flaw m l j k f g);
  }

  -- where the counts hold, the segments decide
  says_from : (v : Verdict) → CountsRule x → JudgedFrom x (segments_of x) 0 v → Says v
  says_from well_formed c g = (c, λ k l. g k (omega arith) (omega arith))
  says_from (flaw l k) c g = inr (c, omega arith, λ j h. g.2 j (omega arith) h, g.3)

  -- the audit
  pub audit_decided : AuditExactly x (audit_rule x)
  unfolding audit_rule
  audit_decided =
      audited (audit_rule x)
      (by_test (counts_hold x)
      (λ c. rw (c, audit_rule) (says_from (audit_from x (segments_of x) 0) (counts_rule x c) (judged_from x (segments_of x) 0)))
      (λ c. rw (c, audit_rule) (inl ((counts_broken x).1 c, refl, refl))))

  -- no rule of a segment has the letter A
  never_a : (k : ℕ) → FirstFails (rules_of x k) A → ⊥
  never_a k =
      ⊎_elim (λ f. other B refl f.1) (λ r. ⊎_elim (λ f. other C refl f.1) (λ r. ⊎_elim (λ f. other D refl f.1)
      (λ r. ⊎_elim (λ f. other E refl f.1) (λ r. ⊎_elim (λ f. other F refl f.1) (λ r. r.1) r.1) r.1) r.1) r.1)

  -- A is answered where the counts rule is broken, and nowhere else
  pub audit_counts : (k : ℕ) → (audit_rule x ≡ flaw A k) ↔ ((CountsRule x → ⊥) × (k ≡ 0))
  audit_counts k = (
    λ q. ⊎_elim (λ f. (f.0, f.2)) (λ f. absurd (never_a k f.3)) ((audit_decided.fails A k).0 q),
    λ f. (audit_decided.fails A k).1 (inl (f.0, refl, f.1)),
  )
