-- Nothing else moved: a refusal changes nothing at all, and an accepted call only what it appends or writes.
use Prim.Native.Nat.{ℕ, ◌-◌}
use mathlib.Core.List.{List}
use mathlib.Core.Logic.{inl, inr}
use mathlib.Core.Path.{◌≡◌, refl, sym, ◌∙◌}
use native.Mathlib.Omega.{arith}
use native.Mathlib.Nat.{zero-add}
use lib.Dec.{leb}
use lib.ListN.{length, get_or}
use lib.Seq.{sets}
use borrow.Author.Tests.{leb-true}
use Rattle.rules.specs.declared.Cursor.{Cursor}
use Rattle.rules.specs.Words.{unless, Answer, value, refused}
use Rattle.rules.specs.Record.{Index, length_of, counts_hold}
use Rattle.rules.specs.Push.{Plan, refuse, segment, first, more, plan_of, effect, push_rule}
use Rattle.rules.specs.Reading.{get_rule, in_range, reads, written, range_rule, stays, moved, step_rule, left_by}
use Rattle.laws.proofs.Tests.{when_case}
use Rattle.promises.specs.Kept.{Appended, Does, Filled}
use Rattle.promises.proofs.Stores.{kept_sets, sets_at}
use Rattle.promises.proofs.Plans.{Due, plan_due, plan_appended}
use Rattle.promises.proofs.Ranges.{through, reads_many, reads_entry}

-- a refused push leaves the state and every entry of the five tables
pub push_refused : (x : Index) (v e : ℕ) → (push_rule x v).answer ≡ refused e → (push_rule x v).left ≡ x
unfolding push_rule
push_refused x v e q = by_plan (plan_of x v) q
  where
    by_plan : (p : Plan) → (effect x v p).answer ≡ refused e → (effect x v p).left ≡ x
    by_plan (refuse d) q = refl
    by_plan segment q = cc
    by_plan (first d n) q = cc
    by_plan (more d w) q = cc

module _ (x : Index) (v : ℕ) where
  -- an accepted push did what was due
  pub push_does : (p : ℕ) → (push_rule x v).answer ≡ value p → Does x v (push_rule x v).left
  unfolding push_rule
  push_does p q = by_plan (plan_of x v) (plan_due x v) q
    where
      by_plan : (plan : Plan) → Due x v plan → (effect x v plan).answer ≡ value p → Does x v (effect x v plan).left
      by_plan (refuse e) d q = cc
      by_plan segment d q = inl (d, refl)
      by_plan (first k n) d q = inr (inl (d.0, rw (d.1, d.2)))
      by_plan (more k w) d q = inr (inr (d.0, rw d.2 at d.3, rw (d.1, d.2)))

  -- an accepted push answers the old length
  pub push_answers : (p : ℕ) → (push_rule x v).answer ≡ value p → p ≡ length_of x
  unfolding push_rule
  push_answers p q = by_plan (plan_of x v) q
    where
      by_plan : (plan : Plan) → (effect x v plan).answer ≡ value p → p ≡ length_of x
      by_plan (refuse e) q = cc
      by_plan segment q = cc
      by_plan (first k n) q = cc
      by_plan (more k w) q = cc

  -- an accepted push leaves all entries but those that it appends
  pub push_appends : (p : ℕ) → (push_rule x v).answer ≡ value p → Appended x (push_rule x v).left
  unfolding push_rule
  push_appends p q = plan_appended x v p (plan_of x v) (plan_due x v) q

-- what get_range has read before it writes
abbrev values_of : Index → ℕ → ℕ → List ℕ → Answer (List ℕ)
values_of x a b out = in_range x a b (unless (leb (b - a) (length out)) (refused 8) (reads x a (b - a)))

-- a refused get_range leaves every entry of the output
pub range_refused : (x : Index) (a b : ℕ) (out : List ℕ) (e : ℕ) → (range_rule x a b out).answer ≡ refused e → (range_rule x a b out).left ≡ out
unfolding range_rule
range_refused x a b out e q = by_answer (values_of x a b out) q
  where
    by_answer : (r : Answer (List ℕ)) → (written out r).answer ≡ refused e → (written out r).left ≡ out
    by_answer (value vs) q = cc
    by_answer (refused d) q = refl

-- get_range that answers has read every position of a..b, and leaves the output from b - a on
pub range_fills : (x : Index) (a b : ℕ) (out : List ℕ) (n : ℕ) → (range_rule x a b out).answer ≡ value n → Filled x a b out n (range_rule x a b out).left
unfolding range_rule
range_fills x a b out n q = by_answer (values_of x a b out) refl q
  where
    by_answer : (r : Answer (List ℕ)) → values_of x a b out ≡ r
        → (written out r).answer ≡ value n → Filled x a b out n (written out r).left
    by_answer (refused e) h q = cc
    by_answer (value vs) h q =
        let t = through (counts_hold x) _ 9 vs h in
        let u = through (leb b (length_of x)) _ 6 vs t.1 in
        let w = through (leb a b) _ 7 vs u.1 in
        let r = through (leb (b - a) (length out)) _ 8 vs w.1 in
        let many = reads_many x a (b - a) vs r.1 in
        let room = leb-true (b - a) (length out) r.0 in
        record {
          count = let s : length vs ≡ n = cc in sym s ∙ many;
          values = λ i l.
              let e : get_or (sets out 0 vs) i 0 ≡ get_or vs i 0 = rw (zero-add i) at (sets_at vs out 0 i (omega arith) (omega arith)) in
              rw e (reads_entry x a (b - a) vs r.1 i l);
          rest = rw (zero-add (length vs), many) at (kept_sets out 0 vs);
        }

-- a step that refuses stays
pub step_refused : (x : Index) (c d : Cursor) (e : ℕ) → step_rule x c ≡ stays e d → d ≡ c
unfolding step_rule
step_refused x c d e = when_case (λ s. s ≡ stays e d → d ≡ c) (leb c.end c.next) (λ t q. cc) (λ t. by_answer (get_rule x c.next))
  where
    by_answer : (r : Answer ℕ) → moved c r ≡ stays e d → d ≡ c
    by_answer (value v) q = cc
    by_answer (refused f) q = cc

-- a step never moves the end
pub end_stays : (x : Index) (c : Cursor) → (left_by c (step_rule x c)).end ≡ c.end
unfolding step_rule
end_stays x c = when_case (λ s. (left_by c s).end ≡ c.end) (leb c.end c.next) (λ t. refl) (λ t. by_answer (get_rule x c.next))
  where
    by_answer : (r : Answer ℕ) → (left_by c (moved c r)).end ≡ c.end
    by_answer (value v) = refl
    by_answer (refused e) = refl
