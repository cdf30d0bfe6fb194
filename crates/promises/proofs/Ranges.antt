-- The values that get_range has read, where it answers.
use Prim.Native.Nat.{ℕ, zero, suc, ◌+◌, ◌<◌}
use mathlib.Core.Bool.{Bool, true, false}
use mathlib.Core.List.{List, []}
use mathlib.Core.Path.{◌≡◌, refl, sym}
use native.Mathlib.Omega.{arith}
use native.Mathlib.Nat.{add-zero, add-suc, suc-add}
use lib.ListN.{length, get_or}
use Rattle.rules.specs.Words.{when, Answer, value, refused}
use Rattle.rules.specs.Record.{Index}
use Rattle.rules.specs.Reading.{get_rule, reads}
use Rattle.laws.proofs.Answers.{before_value}

-- what a choice against a refusal answers, where it answers
pub through : {A : Type 0} (t : Bool) (a : Answer A) (e : ℕ) (v : A) → when t a (refused e) ≡ value v → (t ≡ true) × (a ≡ value v)
through true a e v q = (refl, q)
through false a e v q = cc

-- as many values as positions
pub reads_many : (x : Index) (a n : ℕ) (vs : List ℕ) → reads x a n ≡ value vs → length vs ≡ n
unfolding reads
reads_many x a zero vs q = let e : vs ≡ [] = cc in rw e
reads_many x a (suc n) vs q =
    let s = before_value (get_rule x a) (reads x (suc a) n) vs q in
    rw (sym s.4, reads_many x (suc a) n s.1 s.3)

-- each of them what get answers
pub reads_entry : (x : Index) (a n : ℕ) (vs : List ℕ) → reads x a n ≡ value vs → (i : ℕ) → i < n → get_rule x (a + i) ≡ value (get_or vs i 0)
unfolding reads
reads_entry x a zero vs q i l = absurd (omega arith)
reads_entry x a (suc n) vs q zero l =
    let s = before_value (get_rule x a) (reads x (suc a) n) vs q in
    rw (sym s.4, add-zero a) s.2
reads_entry x a (suc n) vs q (suc i) l =
    let s = before_value (get_rule x a) (reads x (suc a) n) vs q in
    rw (sym s.4, add-suc a i, ← suc-add a i) (reads_entry x (suc a) n s.1 s.3 i (omega arith))
