-- A run of pushes: each keeps the audit and puts its value behind the others, or is refused and changes nothing.
use Prim.Native.Nat.{ℕ, ◌^◌, ◌≤◌, ◌<◌}
use mathlib.Core.List.{List, [], ◌∷◌, ◌++◌, append_assoc, append-nil}
use mathlib.Core.Path.{◌≡◌, refl, ◌∙◌, subst}
use native.Mathlib.Omega.{arith}
use lib.ListN.{length, get_or, length-append, get_or-append}
use lib.Seq.{get_or_at}
use Rattle.rules.specs.Words.{Answer, value, refused}
use Rattle.rules.specs.Record.{Index, minimum_of, length_of}
use Rattle.rules.specs.Push.{Plan, refuse, segment, first, more, plan_of, effect, push_rule}
use Rattle.rules.specs.Run.{fresh, run, if_taken, accepted}
use Rattle.demands.specs.Terms.{Small}
use Rattle.demands.proofs.Compare.{by_less}
use Rattle.demands.proofs.WellFormed.{WellFormed}
use Rattle.demands.proofs.Holds.{Holds, Bytes, OneMore}
use Rattle.demands.proofs.Push.{Allowed, plan_allowed, more_segment, more_first, more_delta}

-- the index is well formed and holds these values, in order
pub record Keeps (x : Index) (vs : List ℕ) : Type 0 where
  pub well : WellFormed x
  pub bytes : Bytes x
  pub many : length vs ≡ length_of x
  pub holds : (p : ℕ) → p < length_of x → Holds x p (get_or vs p 0)

-- a fresh index keeps no values, whatever its tables hold
pub fresh_keeps : (m : ℕ) (s b o w d : List ℕ) → 1 ≤ m → m ≤ 8 → Keeps (fresh m s b o w d) []
fresh_keeps m s b o w d h l = record {
  well = record {
    counts = omega arith;
    zero_edge = refl;
    zero_mark = refl;
    whole = λ k g. absurd (omega arith);
    bare = λ k l g. absurd (omega arith);
    apart = λ k g. absurd (omega arith);
  };
  bytes = λ i g. absurd (omega arith);
  many = refl;
  holds = λ p g. absurd (omega arith);
}

-- one value more
keeps_more : (x y : Index) (vs : List ℕ) (v : ℕ) → Keeps x vs → OneMore x y v → Keeps y (vs ++ (v ∷ []))
keeps_more x y vs v k o =
    let m = k.many in
    let n = o.longer in
    record {
      well = o.well;
      bytes = o.bytes k.bytes;
      many = rw length-append (omega arith);
      holds = λ p h. by_less p (length_of x)
          (λ l. rw (get_or-append vs (v ∷ []) 0 p (omega arith)) (o.old p (get_or vs p 0) (k.holds p l)))
          (λ l. let e : p ≡ length_of x = omega arith in rw (e, get_or_at vs v [] 0 (length_of x) m) o.new);
    }

module _ (x : Index) (vs : List ℕ) (k : Keeps x vs) (v : ℕ) (small : v < 2 ^ 64) where
  -- each plan keeps the audit and what the index holds
  plan_keeps : (p : Plan) → Allowed x v p → Keeps (effect x v p).left (vs ++ if_taken (effect x v p).answer v [])
  plan_keeps (refuse e) a = rw append-nil k
  plan_keeps segment a = keeps_more x _ vs v k (more_segment x k.well v small a)
  plan_keeps (first d need) a = keeps_more x _ vs v k (more_first x k.well v small d need a)
  plan_keeps (more d wide) a = keeps_more x _ vs v k (more_delta x k.well v small d wide a)

  -- an accepted push puts its value behind the others, a refused one leaves them
  push_keeps : Keeps (push_rule x v).left (vs ++ if_taken (push_rule x v).answer v [])
  unfolding push_rule
  push_keeps = plan_keeps (plan_of x v) (plan_allowed x k.well v)

-- the accepted values so far, then those to come
taken_front : (a : Answer ℕ) (vs us : List ℕ) (v : ℕ) → vs ++ if_taken a v [] ++ us ≡ vs ++ if_taken a v us
taken_front (value p) vs us v = append_assoc vs (v ∷ []) us
taken_front (refused e) vs us v = append_assoc vs [] us

-- after a run an index keeps what it kept and what the run's pushes got accepted
pub run_keeps : (us : List ℕ) (x : Index) (vs : List ℕ) → Small us → Keeps x vs → Keeps (run x us) (vs ++ accepted x us)
unfolding run accepted
run_keeps [] x vs s k = rw append-nil k
run_keeps (v ∷ us) x vs s k =
    subst (Keeps (run (push_rule x v).left us)) (taken_front (push_rule x v).answer vs (accepted (push_rule x v).left us) v)
    (run_keeps us (push_rule x v).left (vs ++ if_taken (push_rule x v).answer v []) s.1 (push_keeps x vs k v s.0))

-- what no plan changes, no run changes
pub run_same : {A : Type 0} (f : Index → A) → ((x : Index) (v : ℕ) (p : Plan) → f (effect x v p).left ≡ f x)
    → (us : List ℕ) (x : Index) → f (run x us) ≡ f x
unfolding run push_rule
run_same f same [] x = refl
run_same f same (v ∷ us) x = run_same f same us (push_rule x v).left ∙ same x v (plan_of x v)

-- no plan changes the minimum width
minimum_same : (x : Index) (v : ℕ) (p : Plan) → minimum_of (effect x v p).left ≡ minimum_of x
minimum_same x v (refuse e) = refl
minimum_same x v segment = refl
minimum_same x v (first d w) = refl
minimum_same x v (more d w) = refl

-- so no run does
pub minimum_kept : (us : List ℕ) (x : Index) → minimum_of (run x us) ≡ minimum_of x
minimum_kept = run_same minimum_of minimum_same
