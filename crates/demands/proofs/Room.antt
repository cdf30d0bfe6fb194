-- With room for n values none of the first n pushes lacks room: fewer than n values make fewer segments and bytes than that.
use Prim.Native.Nat.{ℕ, suc, ◌≤◌, ◌<◌}
use mathlib.Core.List.{List, [], ◌∷◌}
use mathlib.Core.Path.{◌≡◌, refl, sym, subst}
use native.Mathlib.Omega.{arith}
use lib.ListN.{length, length-set}
use lib.Seq.{length-sets}
use Rattle.rules.specs.Words.{Answer, value, refused}
use Rattle.rules.specs.Record.{Room, Index, length_of, segments_of, widths_of, used_of, room_of}
use Rattle.rules.specs.Push.{delta_bytes, Plan, refuse, segment, first, more, plan_of, effect, push_rule}
use Rattle.rules.specs.Run.{run, if_taken, accepted}
use Rattle.demands.specs.Terms.{RoomFor}
use Rattle.demands.proofs.WellFormed.{WellFormed}
use Rattle.demands.proofs.Push.{Allowed, plan_allowed}
use Rattle.demands.proofs.Run.{run_same}

-- a push leaves the lengths of the tables
room_same : (x : Index) (v : ℕ) (p : Plan) → room_of (effect x v p).left ≡ room_of x
room_same x v (refuse e) = refl
room_same x v segment =
    rw (length-set x.starts (segments_of x) (length_of x), length-set x.bases (segments_of x) v, length-set x.offsets (segments_of x) (used_of x))
room_same x v (first d w) = rw (length-set x.widths (widths_of x) w, length-sets x.bytes (used_of x) (delta_bytes w d))
room_same x v (more d w) = rw (length-sets x.bytes (used_of x) (delta_bytes w d))

-- a push adds at most one value
taken_most : (a : Answer ℕ) (v : ℕ) (vs : List ℕ) → length (if_taken a v vs) ≤ suc (length vs)
taken_most (value p) v vs = omega arith
taken_most (refused e) v vs = omega arith

-- no more values are accepted than were pushed
pub accepted_most : (us : List ℕ) (x : Index) → length (accepted x us) ≤ length us
unfolding accepted
accepted_most [] x = omega arith
accepted_most (v ∷ us) x =
    let r = accepted_most us (push_rule x v).left in
    let t = taken_most (push_rule x v).answer v (accepted (push_rule x v).left us) in
    omega arith

-- a plan that is refused is that refusal
plan_refused : (x : Index) (v e : ℕ) (p : Plan) → Allowed x v p → (effect x v p).answer ≡ refused e → Allowed x v (refuse e)
plan_refused x v e (refuse f) a q = let t : f ≡ e = cc in rw t at a
plan_refused x v e segment a q = cc
plan_refused x v e (first d w) a q = cc
plan_refused x v e (more d w) a q = cc

-- what a refused push on a well-formed index says: 1 to 4, and 1 where there is room
push_refused : (x : Index) → WellFormed x → (v e : ℕ) → (push_rule x v).answer ≡ refused e → Allowed x v (refuse e)
unfolding push_rule
push_refused x w v e q = plan_refused x v e (plan_of x v) (plan_allowed x w v) q

-- a push on a well-formed index is never refused 9 or 10
pub refused_most : (x : Index) → WellFormed x → (v e : ℕ) → (push_rule x v).answer ≡ refused e → e ≤ 4
refused_most x w v e q = (push_refused x w v e q).0

-- after a run in tables with room for n values, a push behind fewer than n is refused only because its value is below the base
pub refused_below : (x : Index) (us : List ℕ) (n v e : ℕ) → WellFormed (run x us) → RoomFor (room_of x) n → length_of (run x us) < n
    → (push_rule (run x us) v).answer ≡ refused e → e ≡ 1
refused_below x us n v e w r l q = (push_refused (run x us) w v e q).1 n l (subst (λ (s : Room). RoomFor s n) (sym (run_same room_of room_same us x)) r)
