-- On a well-formed index no read is damage: each get within length is a value, and every other refusal has its own number.
use Prim.Native.Nat.{ℕ, ◌+◌, ◌-◌, ◌≤◌}
use mathlib.Core.List.{List}
use mathlib.Core.Path.{◌≡◌}
use native.Mathlib.Omega.{arith}
use lib.Dec.{leb, ltb}
use lib.ListN.{length}
use borrow.Author.Tests.{leb-true, le-ltb}
use Rattle.rules.specs.declared.Cursor.{Cursor}
use Rattle.rules.specs.Words.{unless, Answer, value, refused, and_then}
use Rattle.rules.specs.Record.{Index, length_of}
use Rattle.rules.specs.Reading.{get_rule, in_range, reads, written, range_rule, Stepped, stays, moved, step_rule, target_end, target_rule, bisect_rule, bisect_range_rule}
use Rattle.laws.proofs.Tests.{when_case}
use Rattle.demands.proofs.Compare.{by_less}
use Rattle.demands.proofs.WellFormed.{WellFormed}
use Rattle.demands.proofs.Bounds.{counts_hold_lem}
use Rattle.demands.proofs.Get.{get_value}
use Rattle.demands.proofs.Bisect.{bisect_value}
use Rattle.demands.proofs.Ranges.{reads_values}

-- an answer that is not 10
abbrev pub Undamaged : {A : Type 0} → Answer A → Type 0
Undamaged (value a) = Unit
Undamaged (refused e) = e ≡ 10 → ⊥

-- so it is not 10
pub not_ten : {A : Type 0} (a : Answer A) → Undamaged a → a ≡ refused 10 → ⊥
not_ten (value a) u e = cc
not_ten (refused n) u e = u cc

-- an undamaged answer that goes on to undamaged ones
and_then_lem : {A B : Type 0} (a : Answer A) (f : A → Answer B) → Undamaged a → ((v : A) → Undamaged (f v)) → Undamaged (and_then a f)
and_then_lem (value v) f u g = g v
and_then_lem (refused e) f u g = u

-- undamaged values are written undamaged
written_undamaged : (out : List ℕ) (r : Answer (List ℕ)) → Undamaged r → Undamaged (written out r).answer
written_undamaged out (value vs) u = tt
written_undamaged out (refused e) u = u

-- a step on an undamaged read
moved_undamaged : (c d : Cursor) (a : Answer ℕ) → Undamaged a → moved c a ≡ stays 10 d → ⊥
moved_undamaged c d (value v) u e = let z : ◌≡◌ {A = ℕ} 0 1 = cc in omega arith
moved_undamaged c d (refused n) u e = u cc

module _ (x : Index) (w : WellFormed x) where
  -- get is a value or 5
  pub get_undamaged : (p : ℕ) → Undamaged (get_rule x p)
  unfolding get_rule
  get_undamaged p =
      by_less p (length_of x)
      (λ l. rw (get_value x w p l).1 tt)
      (λ l. rw (counts_hold_lem x w, le-ltb p (length_of x) l) (λ e. omega arith))

  -- a range is 6, 7 or the rest
  in_range_undamaged : {A : Type 0} (a b : ℕ) (rest : Answer A) → (a ≤ b → b ≤ length_of x → Undamaged rest) → Undamaged (in_range x a b rest)
  in_range_undamaged a b rest f =
      rw (counts_hold_lem x w)
      (when_case Undamaged (leb b (length_of x))
      (λ t. when_case Undamaged (leb a b) (λ u. f (leb-true a b u) (leb-true b (length_of x) t)) (λ u e. omega arith))
      (λ t e. omega arith))

  -- reads within length
  reads_undamaged : (a b : ℕ) → a ≤ b → b ≤ length_of x → Undamaged (reads x a (b - a))
  reads_undamaged a b h l = rw (reads_values x w (b - a) a (omega arith)).1 tt

  -- get_range
  pub range_undamaged : (a b : ℕ) (out : List ℕ) → Undamaged (range_rule x a b out).answer
  unfolding range_rule
  range_undamaged a b out =
      let rest = unless (leb (b - a) (length out)) (refused 8) (reads x a (b - a)) in
      written_undamaged out (in_range x a b rest)
      (in_range_undamaged a b rest (λ h l. when_case Undamaged (leb (b - a) (length out)) (λ t. reads_undamaged a b h l) (λ t e. omega arith)))

  -- a step of a walk
  pub step_undamaged : (c d : Cursor) → step_rule x c ≡ stays 10 d → ⊥
  unfolding step_rule
  step_undamaged c d =
      when_case (λ (s : Stepped). s ≡ stays 10 d → ⊥) (leb c.end c.next)
      (λ t e. let z : ◌≡◌ {A = ℕ} 0 1 = cc in omega arith)
      (λ t. moved_undamaged c d (get_rule x c.next) (get_undamaged c.next))

  -- target_range
  pub target_undamaged : (p t : ℕ) → Undamaged (target_rule x p t)
  unfolding target_rule target_end
  target_undamaged p t =
      and_then_lem (get_rule x p) _ (get_undamaged p)
      (λ from. and_then_lem (target_end x p t) _
      (when_case Undamaged (ltb (length_of x) (p + 2)) (λ u. tt) (λ u. and_then_lem (get_rule x (p + 1)) _ (get_undamaged (p + 1)) (λ next. tt)))
      (λ to. tt))

  -- bisect_left
  pub bisect_undamaged : (v : ℕ) → Undamaged (bisect_rule x v)
  bisect_undamaged v = rw (bisect_value x w v).1 tt

  -- bisect_range_left
  pub bisect_range_undamaged : (a b v : ℕ) → Undamaged (bisect_range_rule x a b v)
  unfolding bisect_range_rule
  bisect_range_undamaged a b v = in_range_undamaged a b _ (λ h l. and_then_lem (bisect_rule x v) _ (bisect_undamaged v) (λ k. tt))
