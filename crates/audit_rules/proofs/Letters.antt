-- Each letter's tests, decided by differences, checked sums and byte widths that fit 64 bits.
use Prim.Native.Nat.{ℕ, ◌+◌, ◌-◌, ◌*◌, ◌^◌, ◌≤◌, ◌<◌}
use mathlib.Core.Bool.{Bool, true, false}
use Rattle.std.proofs.Common.{zero-add}
use Rattle.std.specs.Bool.{MatchBool}
use Rattle.std.proofs.lemmas.List.FromFn.{length-range_with_len, get_or-range_with_len}
use Rattle.std.specs.List.{AllWithin, HoldsAt, range_with_len}
use mathlib.Core.List.{List}
use mathlib.Core.Path.{◌≡◌, sym}
use native.Mathlib.Omega.{arith}
use native.Mathlib.Nat.{pow-le-pow_right, lt_of_lt_of_le}
use lib.Dec.{ltb, lit<}
use lib.ListN.{length, get_or}
use borrow.Author.Tests.{ltb-true, ltb-false, lt-ltb}
use Rattle.rules.specs.Words.{when_all, all_below}
use Rattle.rules.specs.Record.{Index, segments_of, widths_of, used_of, base, offset, edge, mark}
use Rattle.rules.specs.Push.{byte_width, delta_at}
use Rattle.rules.specs.Audit.{tests_f}
use Rattle.audit_rules.specs.Letters.{rule_b, rule_d, rule_e}
use Rattle.laws.proofs.Tests.{by_test, same_test, facts_of, taken, all_fact, all_held}
use Rattle.laws.proofs.Widths.{width_holds, width_least}
use Rattle.laws.proofs.Bytes.{delta_room, delta_at_below}

-- B leaves room between a segment's edges
pub b_room : (x : Index) (k : ℕ) → when_all (rule_b x k) true false ≡ true → edge x k < edge x (k + 1)
b_room x k e =
    let f = facts_of (rule_b x k) e in
    by_test (ltb (k + 1) (segments_of x))
    (λ t. let l = f.1.0 (ltb-true (k + 1) (segments_of x) t) in omega arith)
    (λ t. let l = f.1.1.0 (ltb-false (k + 1) (segments_of x) t) in rw t l)

-- D: the next base is far enough exactly where the gap takes more than w bytes
pub d_same : (x : Index) (k w : ℕ) → k + 1 < segments_of x → base x (k + 1) < 2 ^ 64 → base x k ≤ base x (k + 1) → 1 ≤ w
    → ltb w (byte_width (base x (k + 1) - base x k)) ≡ when_all (rule_d x k w) true false
d_same x k w more small h pos =
    let gap = base x (k + 1) - base x k in
    same_test _ _
    (λ t. let l = ltb-true w (byte_width gap) t in
    taken (rule_d x k w) true false (
      (λ m. by_test (ltb gap (256 ^ w))
          (λ u. let n = width_least gap w (omega arith) pos (ltb-true gap (256 ^ w) u) in absurd (omega arith))
          (λ u. let n = ltb-false gap (256 ^ w) u in omega arith)),
      tt,
    ))
    (λ t. let l = (facts_of (rule_d x k w) t).0 more in
    by_test (ltb w (byte_width gap)) (λ u. u)
    (λ u. let n = lt_of_lt_of_le (width_holds gap (omega arith)) (pow-le-pow_right {n = 256} (lit< tt) (ltb-false w (byte_width gap) u)) in absurd (omega arith)))

-- E keeps the deltas within used
pub e_room : (x : Index) (k d w : ℕ) → k < segments_of x → k < widths_of x → when_all (rule_e x k d w) true false ≡ true → offset x k + d * w ≤ used_of x
e_room x k d w inside has e =
    let f = facts_of (rule_e x k d w) e in
    let a = f.1.0 has in
    let b = f.1.1.0 has in
    let here : mark x k ≡ offset x k = rw (lt-ltb k (segments_of x) inside) in
    omega arith

-- one number that is not below makes the whole false
pub one_over : (n : ℕ) (f : ℕ → ℕ) (b i : ℕ) → i < n → b ≤ f i → all_below n f b ≡ false
one_over n f b i h l = by_test (all_below n f b) (λ t. let g = all_fact n f b t i h in absurd (omega arith)) (λ t. t)

-- where any delta of this width fits, all d do
pub f_sure : (bytes : List ℕ) (b at d w : ℕ) → at + d * w ≤ length bytes → ((i : ℕ) → i < length bytes → get_or bytes i 0 < 256) → b + 256 ^ w ≤ 2 ^ 64
    → all_below d (λ i. b + delta_at bytes (at + i * w) w) (2 ^ 64) ≡ true
f_sure bytes b at d w room small h =
    all_held d (λ (i : ℕ). b + delta_at bytes (at + i * w) w) (2 ^ 64) (λ i l.
    let r = delta_room d w i l in
    let e = delta_at_below bytes (length bytes) w (at + i * w) small (omega arith) in omega arith)

-- F of a segment with a width: all its sums are below 2^64
pub f_same : (widths k d b w at : ℕ) (bytes : List ℕ) → k < widths
    → all_below d (λ i. b + delta_at bytes (at + i * w) w) (2 ^ 64) ≡ when_all (tests_f widths k d b w at bytes) true false
f_same widths k d b w at bytes has =
    let sum : ℕ → ℕ = λ i. b + delta_at bytes (at + i * w) w in
    let ts = tests_f widths k d b w at bytes in
    same_test _ _ (λ t. taken ts true false ((λ l. all_fact d sum (2 ^ 64) t), tt)) (λ t. all_held d sum (2 ^ 64) ((facts_of ts t).0 has))

-- the sums tested one by one
pub tested : (n : ℕ) (f : ℕ → ℕ) (b : ℕ) (r : Bool)
    → MatchBool r (AllWithin (λ i. f i < b) (range_with_len 0 n) 0 (length (range_with_len 0 n))) ((k : ℕ) × (k < length (range_with_len 0 n)) × HoldsAt (λ i. b ≤ f i) (range_with_len 0 n) k)
    → r ≡ all_below n f b
tested n f b true h =
    let e = length-range_with_len 0 n in
    sym (all_held n f b (λ i l. rw (get_or-range_with_len, zero-add) at (h i 0 (omega arith) (omega arith))))
tested n f b false h =
    let e = length-range_with_len 0 n in
    let l : h.0 < n = omega (arith, h.1) in
    sym (one_over n f b h.0 l (rw (get_or-range_with_len, zero-add) at (h.2 0)))
