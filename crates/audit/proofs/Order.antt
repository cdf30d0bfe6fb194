-- The order of the audit: letter after letter in a segment, segment after segment in the index.
use Prim.Native.Nat.{ℕ, suc, ◌+◌, ◌-◌, ◌≤◌, ◌<◌}
use mathlib.Core.Bool.{true, false}
use mathlib.Core.List.{List, [], ◌∷◌}
use mathlib.Core.Path.{◌≡◌, refl, sym, ◌∙◌}
use native.Mathlib.Omega.{arith}
use native.Mathlib.Numerals.{add-one}
use Rattle.std.specs.Prelude.{Err, ◌⊎◌}
use Rattle.std.proofs.Common.{inl, inr}
use Rattle.rules.specs.declared.Flaw.{Flaw}
use Rattle.rules.specs.Words.{when, Test, Facts, when_all}
use Rattle.rules.specs.Record.{Index, segments_of, widths_of, width, counts_hold}
use Rattle.rules.specs.Audit.{A, E, well_formed, flaw, deltas, Rule, rules_of, first_flaw, audit_from, audit_rule, verdict_of}
use Rattle.audit_rules.specs.Letters.{rule_b, rule_c, rule_d, rule_e, rule_f, rules_cto_f}
use Rattle.laws.proofs.Tests.{taken, by_test, facts_of}

-- a list of tests fails, or says its facts
pub tests_tell : (ts : List Test) → (when_all ts true false ≡ false) ⊎ Facts ts
tests_tell ts = by_test (when_all ts true false) (λ t. inr (facts_of ts t)) (λ t. inl t)

-- no rule is left
pub flaw_none : (k : ℕ) → first_flaw k [] ≡ well_formed
unfolding first_flaw
flaw_none k = refl

-- a rule that holds: the verdict is on those after it
pub flaw_next : (k : ℕ) (r : Rule) (rs : List Rule) → when_all r.tests true false ≡ true → first_flaw k (r ∷ rs) ≡ first_flaw k rs
unfolding first_flaw
flaw_next k r rs e = rw (e, first_flaw)

-- a rule that fails is the verdict
pub flaw_here : (k : ℕ) (r : Rule) (rs : List Rule) → when_all r.tests true false ≡ false → first_flaw k (r ∷ rs) ≡ flaw r.letter k
unfolding first_flaw
flaw_here k r rs e = rw (e, first_flaw)

-- the last rule decides
pub flaw_last : (k : ℕ) (r : Rule) → first_flaw k (r ∷ []) ≡ when (when_all r.tests true false) well_formed (flaw r.letter k)
unfolding first_flaw
flaw_last k r = by_test (when_all r.tests true false) (λ e. rw (e, first_flaw)) (λ e. rw (e, first_flaw))

-- where B holds, the verdict on C to F, at the segment's own deltas and width, is the segment's
pub past_b : (x : Index) (k d w : ℕ) → when_all (rule_b x k) true false ≡ true → d ≡ deltas x k → w ≡ width x k
    → first_flaw k (rules_cto_f x k d w) ≡ first_flaw k (rules_of x k)
past_b x k d w b ed ew = rw (ed, ew) (sym (flaw_next k _ _ b))

-- a last segment without a width has E alone to keep
pub without : (x : Index) (k d w : ℕ) → widths_of x ≤ k → segments_of x ≤ k + 1
    → first_flaw k (rules_cto_f x k d w) ≡ when (when_all (rule_e x k d w) true false) well_formed (flaw E k)
without x k d w none last =
    let c = taken (rule_c x k w) true false (omega arith) in
    let e = taken (rule_d x k w) true false (omega arith) in
    let f = taken (rule_f x k d w) true false ((λ h. absurd (omega arith)), tt) in
    flaw_next k _ _ c ∙ flaw_next k _ _ e
    ∙ by_test (when_all (rule_e x k d w) true false)
    (λ t. rw t (flaw_next k _ _ t ∙ flaw_next k _ _ f ∙ flaw_none k))
    (λ t. rw t (flaw_here k _ _ t))

-- counts come first
pub audit_counts : (x : Index) → counts_hold x ≡ false → audit_rule x ≡ flaw A 0
unfolding audit_rule
audit_counts x e = rw (e, audit_rule)

-- then all segments from the first on
pub audit_start : (x : Index) → counts_hold x ≡ true → audit_rule x ≡ audit_from x (segments_of x - 0) 0
unfolding audit_rule
audit_start x e = rw (e, audit_rule) (let z : segments_of x - 0 ≡ segments_of x = omega arith in rw z)

module _ (x : Index) (n k : ℕ) where
  -- a segment without a flaw: on to the next
  pub audit_on : k < n → first_flaw k (rules_of x k) ≡ well_formed → audit_from x (n - k) k ≡ audit_from x (n - (k + 1)) (k + 1)
  unfolding audit_from
  audit_on h e = let z : n - k ≡ suc (n - (k + 1)) = omega arith in rw (z, e, add-one k)

  -- a segment's flaw is the verdict
  pub audit_stop : (r : Flaw) → k < n → verdict_of (Err r) ≡ first_flaw k (rules_of x k) → verdict_of (Err r) ≡ audit_from x (n - k) k
  unfolding audit_from
  audit_stop r h e = let z : n - k ≡ suc (n - (k + 1)) = omega arith in rw (z, sym e) refl

  -- no segment is left
  pub audit_end : n ≤ k → audit_from x (n - k) k ≡ well_formed
  unfolding audit_from
  audit_end h = let z : n - k ≡ 0 = omega arith in rw z
