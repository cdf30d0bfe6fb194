-- A step is done, or it is what get(next) answers with the cursor beside it.
use Prim.Native.Nat.{ℕ, ◌≤◌, ◌<◌}
use mathlib.Core.Path.{◌≡◌, refl, ◌∙◌}
use native.Mathlib.Omega.{arith}
use lib.Dec.{leb}
use borrow.Author.Tests.{leb-true, leb-false}
use Rattle.rules.specs.declared.Cursor.{Cursor}
use Rattle.rules.specs.Words.{Answer}
use Rattle.rules.specs.Record.{Index}
use Rattle.rules.specs.Reading.{done, moved, step_rule, get_rule}
use Rattle.laws.proofs.Tests.{when_case}
use Rattle.promises.specs.Table.{get_table}
use Rattle.promises.specs.Steps.{StepExactly}
use Rattle.promises.proofs.Deciding.{Decided, none, given, one_given, some_given}
use Rattle.promises.proofs.Reading.{get_decided}

module _ (x : Index) (c : Cursor) where
  -- nothing is left
  finished : c.end ≤ c.next → StepExactly x c done
  finished l = record {
    finishes = (λ q. l, λ h. refl);
    refuses = λ e. (λ q. cc, λ g. absurd (omega arith));
    gives = λ v. (λ q. cc, λ g. absurd (omega arith));
  }

  -- something is left, and get(next) answers a
  going : {a : Answer ℕ} → get_rule x c.next ≡ a → c.next < c.end → Decided (get_table x c.next) a → StepExactly x c (moved c a)
  going is l (none {v} n) = record {
    finishes = (λ q. cc, λ h. absurd (omega arith));
    refuses = λ e. (λ q. cc, λ g. absurd (some_given (get_table x c.next) e g.1 n));
    gives = λ w. (λ q. (l, is ∙ cc), λ g. cc (g.1));
  }
  going is l (given {e = d} g) = record {
    finishes = (λ q. cc, λ h. absurd (omega arith));
    refuses = λ e. (λ q. (l, let s : d ≡ e = cc in rw s at g), λ h. rw (one_given (get_table x c.next) d e g h.1));
    gives = λ w. (λ q. cc, λ h. cc (h.1));
  }

  -- a step
  pub step_decided : StepExactly x c (step_rule x c)
  unfolding step_rule
  step_decided =
      when_case (StepExactly x c) (leb c.end c.next)
      (λ t. finished (leb-true c.end c.next t))
      (λ t. going refl (leb-false c.end c.next t) (get_decided x c.next))
