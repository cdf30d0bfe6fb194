-- Storing: what is still to be stored, stored after what was, gives the whole; and a store in a lent tail, said of the whole slice.
use Prim.Native.Nat.{ℕ, suc, ◌+◌, ◌-◌, ◌/◌, ◌%◌, ◌≤◌, ◌<◌}
use mathlib.Core.List.{List, [], ◌∷◌}
use mathlib.Core.Path.{◌≡◌, ◌∙◌}
use native.Mathlib.Omega.{arith}
use native.Mathlib.Nat.{add-suc, add-zero}
use lib.ListN.{length, take, set}
use lib.Seq.{sets, drop-set-add, take-set-le, take-set-lt, drop-set-lt}
use borrow.Rule.Slice.PartMut.{put_mid, mid_of, post_of, put_same}
use Rattle.rules.specs.Push.{delta_bytes}

-- one byte stored, and the rest of the bytes after it
pub store_step : (l : List ℕ) (i d n m : ℕ) → n ≡ suc m → sets l i (delta_bytes n d) ≡ sets (set l i (d % 256)) (suc i) (delta_bytes m (d / 256))
store_step l i d n m e = rw e

-- a run of stores in a part, said of the whole
pub sets_mid : (a k : ℕ) (vs l : List ℕ) (i : ℕ) → i + length vs ≤ k → put_mid a k l (sets (mid_of a k l) i vs) ≡ sets l (a + i) vs
sets_mid a k [] l i h = put_same a k l
sets_mid a k (v ∷ vs) l i h =
    let i<k : i < k = omega arith in
    let l' = set l (a + i) v in
    let a≤ : a ≤ a + i = omega arith in
    let mid : mid_of a k l' ≡ set (mid_of a k l) i v = rw (drop-set-add, take-set-lt) in
    let front : take a l' ≡ take a l = rw take-set-le in
    let rest : post_of a k l' ≡ post_of a k l = rw (drop-set-add, drop-set-lt) in
    rw (← front, ← rest, ← mid, ← add-suc) (sets_mid a k vs l' (suc i) (omega arith))

-- what a callee that was lent all from u on stored at its front, said of the whole
pub stored_from : (u : ℕ) (vs l last : List ℕ) → u + length vs ≤ length l → last ≡ sets (mid_of u (length l - u) l) 0 vs → put_mid u (length l - u) l last ≡ sets l u vs
stored_from u vs l last h e = rw e (sets_mid u (length l - u) vs l 0 (omega arith) ∙ rw add-zero)
