-- The counts rule in 01's words is the rule that every entry point tests first: by cases on whether there is a segment.
use mathlib.Core.Bool.{true, false}
use mathlib.Core.Logic.{◌↔◌, inl, inr, ⊎_elim}
use mathlib.Core.Path.{◌≡◌}
use native.Mathlib.Omega.{arith}
use lib.Dec.{eqb, leb}
use borrow.Author.Tests.{eqb-true, eqb-false, leb-true, leb-false}
use Rattle.rules.specs.Record.{Index, segments_of, widths_of, counts_hold}
use Rattle.laws.proofs.Tests.{by_test, false_not_true}
use Rattle.laws.proofs.Counts.{counts_facts, facts_counts}
use Rattle.promises.specs.Table.{CountsRule}

-- where the test holds, so does the rule
pub counts_rule : (x : Index) → counts_hold x ≡ true → CountsRule x
counts_rule x e =
    let c = counts_facts x e in
    record {
      minimum = omega arith;
      segments = omega arith;
      widths = omega arith;
      used = omega arith;
      empty = omega arith;
      zeros = omega arith;
      otherwise = λ s.
          by_test (leb (segments_of x) (widths_of x))
          (λ t. let l = leb-true (segments_of x) (widths_of x) t in inl (omega arith))
          (λ t. let l = leb-false (segments_of x) (widths_of x) t in inr (omega arith));
      total = omega arith;
    }

-- where the rule holds, so does the test
pub rule_counts : (x : Index) → CountsRule x → counts_hold x ≡ true
rule_counts x r =
    facts_counts x
    (by_test (eqb (segments_of x) 0)
    (λ t. let z = eqb-true (segments_of x) 0 t in let n = r.empty.0 z in let a = r.zeros z in omega arith)
    (λ t. let z = eqb-false (segments_of x) 0 t in ⊎_elim (λ a. omega arith) (λ a. omega arith) (r.otherwise z)))

-- the counts rule holds exactly when its test does
pub counts_hold_lem : (x : Index) → CountsRule x ↔ (counts_hold x ≡ true)
counts_hold_lem x = (rule_counts x, counts_rule x)

-- the counts rule is broken exactly when its test fails
pub counts_broken : (x : Index) → (CountsRule x → ⊥) ↔ (counts_hold x ≡ false)
counts_broken x = (
  λ never. by_test (counts_hold x) (λ t. absurd (never (counts_rule x t))) (λ t. t),
  λ f r. false_not_true (counts_hold x) (rule_counts x r) f,
)
