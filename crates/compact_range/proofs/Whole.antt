-- get_range as a whole: what each of its returns says of the rule.
use Prim.Native.Nat.{ℕ, zero, suc, ◌+◌, ◌-◌, ◌≤◌, ◌<◌}
use mathlib.Core.Bool.{true, false}
use mathlib.Core.List.{List, [], ◌∷◌}
use mathlib.Core.Path.{◌≡◌, refl, sym, ap, ◌∙◌}
use native.Mathlib.Omega.{arith}
use lib.Dec.{ltb, eqb}
use lib.ListN.{length, set}
use lib.Seq.{sets}
use borrow.Author.Tests.{lt-ltb}
use Rattle.rules.specs.Words.{Answer, value, refused}
use Rattle.rules.specs.Record.{Index, minimum_of, length_of, widths_of, used_of, start, base, offset, width, counts_hold}
use Rattle.rules.specs.Reading.{damaged, delta_read, read_in, starts_up_to, get_rule, before, reads, ranged, written}
use Rattle.laws.proofs.Tests.{false_not_true, when_case, when_all_case}
use Rattle.range_reads.specs.Values.{is_value}
use Rattle.range_write.specs.Puts.{value_of, gets, puts}
use Rattle.range_write.proofs.Given.{reads_at}
use Rattle.range_write.proofs.Writing.{puts_join}

-- the first n numbers of f
unfoldable firsts : (ℕ → ℕ) → ℕ → List ℕ
firsts f zero = []
firsts f (suc n) = f 0 ∷ firsts (λ i. f (suc i)) n

-- there are n of them
firsts_length : (f : ℕ → ℕ) (n : ℕ) → length (firsts f n) ≡ n
unfolding firsts
firsts_length f zero = refl
firsts_length f (suc n) = ap suc (firsts_length (λ i. f (suc i)) n)

-- puts are the stores of a list
puts_sets : (f : ℕ → ℕ) (from n : ℕ) (out : List ℕ) → puts f from n out ≡ sets out from (firsts f n)
unfolding puts firsts
puts_sets f from zero out = refl
puts_sets f from (suc n) out =
    let e : from + 1 ≡ suc from = omega arith in
    let z : from + 0 ≡ from = omega arith in
    let m : suc n ≡ 1 + n = omega arith in
    ap (λ (k : ℕ). puts f from k out) m
    ∙ sym (puts_join f (λ i. f (suc i)) from 1 n out (λ j h. let y : suc j ≡ 1 + j = omega arith in ap f y))
    ∙ ap (λ (o : List ℕ). puts (λ i. f (suc i)) (from + 1) n o) (ap (λ (k : ℕ). set out k (f 0)) z)
    ∙ ap (λ (k : ℕ). puts (λ i. f (suc i)) k n (set out from (f 0))) e
    ∙ puts_sets (λ i. f (suc i)) (suc from) n (set out from (f 0))

-- a range of values is the list of them
reads_firsts : (x : Index) (n a : ℕ) (f : ℕ → ℕ) → ((i : ℕ) → i < n → get_rule x (a + i) ≡ value (f i)) → reads x a n ≡ value (firsts f n)
unfolding reads firsts
reads_firsts x zero a f h = refl
reads_firsts x (suc n) a f h =
    let z : a ≡ a + 0 = omega arith in
    let e : get_rule x a ≡ value (f 0) = ap (get_rule x) z ∙ h 0 (omega arith) in
    let r = reads_firsts x n (suc a) (λ i. f (suc i)) (λ i l. let y : suc a + i ≡ a + suc i = omega arith in ap (get_rule x) y ∙ h (suc i) (omega arith)) in
    rw (e, r)

-- an answer that is a value is the answer of that value
value_is : (g : Answer ℕ) → is_value g ≡ true → g ≡ value (value_of g)
value_is (value v) e = refl
value_is (refused r) e = false_not_true false e refl

-- an answer that is damage where it is no value
abbrev OrDamaged : {A : Type 0} → Answer A → Type 0
OrDamaged g = is_value g ≡ false → g ≡ damaged

-- so a value is; and a value or damage before several
value_or : {A : Type 0} (v : A) → OrDamaged (value v)
value_or v e = false_not_true true refl e

before_or : (g : Answer ℕ) (s : Answer (List ℕ)) → OrDamaged g → OrDamaged s → OrDamaged (before g s)
before_or (value v) (value vs) f h e = value_or (v ∷ vs) e
before_or (value v) (refused r) f h e = h e
before_or (refused r) s f h e = let q : refused r ≡ damaged = f refl in let z : r ≡ 10 = cc in rw z

-- a delta, a read in a segment, and a get within the length
delta_or : (m used : ℕ) (bytes : List ℕ) (base offset i w : ℕ) → OrDamaged (delta_read m used bytes base offset i w)
unfolding delta_read
delta_or m used bytes base offset i w = when_all_case OrDamaged _ (λ f. value_or _) (λ n e. refl)

read_or : (x : Index) (k p : ℕ) → OrDamaged (read_in x k p)
unfolding read_in
read_or x k p =
    when_case OrDamaged (ltb p (start x k)) (λ t e. refl)
    (λ t. when_case OrDamaged (eqb p (start x k)) (λ u. value_or (base x k))
    (λ u. when_case OrDamaged (ltb k (widths_of x))
    (λ v. delta_or (minimum_of x) (used_of x) x.bytes (base x k) (offset x k) (p - start x k - 1) (width x k)) (λ v e. refl)))

get_rule_or : (x : Index) (p : ℕ) → counts_hold x ≡ true → p < length_of x → OrDamaged (get_rule x p)
unfolding get_rule
get_rule_or x p c h =
    rw (c, lt-ltb p (length_of x) h, get_rule)
    (when_case OrDamaged (eqb (starts_up_to x p) 0) (λ t e. refl) (λ t. read_or x (starts_up_to x p - 1) p))

-- and so the reads of a range within the length
reads_or : (x : Index) (n a : ℕ) → counts_hold x ≡ true → a + n ≤ length_of x → OrDamaged (reads x a n)
unfolding reads
reads_or x zero a c h = value_or []
reads_or x (suc n) a c h = before_or (get_rule x a) (reads x (suc a) n) (get_rule_or x a c (omega arith)) (reads_or x n (suc a) c (omega arith))

-- a range within the length that is no value is damaged
pub range_damaged : (x : Index) (a b : ℕ) → is_value (reads x a (b - a)) ≡ false → counts_hold x ≡ true → a ≤ b → b ≤ length_of x → reads x a (b - a) ≡ damaged
range_damaged x a b e c h l = reads_or x (b - a) a c (omega arith) e

-- and one that is a value is its gets, put into the output
pub range_written : (x : Index) (a n : ℕ) (out : List ℕ) → is_value (reads x a n) ≡ true → written out (reads x a n) ≡ ranged (value n) (puts (gets x a) 0 n out)
range_written x a n out e =
    let f = reads_firsts x n a (gets x a) (λ i h. value_is (get_rule x (a + i)) (reads_at x n a e (a + i) (omega arith) (omega arith))) in
    rw (f, firsts_length (gets x a) n, puts_sets (gets x a) 0 n out)
