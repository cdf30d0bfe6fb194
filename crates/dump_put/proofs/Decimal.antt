-- A number's digits as the library writes them are those of `decimal`, and these are the fewest that hold it.
use Rattle.std.proofs.Common.{◌≡◌, ap, ℕ, zero, suc, ◌+◌, ◌-◌, ◌/◌, ◌%◌, ◌^◌, ◌≤◌, ◌<◌, [], ◌∷◌, arith}
use Rattle.std.specs.Fmt.{decimal as printed}
use Rattle.std.proofs.lemmas.Fmt.{decimal_digit, decimal_step}
use native.Mathlib.Nat.{pow-suc, pow-le-pow_right, le_trans, div-lt_iff_lt-mul, le-div_iff_mul-le}
use borrow.Author.Tests.{lt-ltb, le-ltb, ltb-true, ltb-false}
use lib.Dec.{ltb, lit<}
use Rattle.laws.proofs.Tests.{by_test}
use Rattle.io.specs.Digits.{last_digits, hex_digit_ascii, IsDigitCount}
use Rattle.dump_put.specs.Report.{places, decimal}

-- a last digit's code
last_digit : (n : ℕ) → hex_digit_ascii (n % 10) ≡ 48 + n % 10
last_digit n = rw (lt-ltb (n % 10) 10 (omega arith))

-- a single digit
one_digit : (n : ℕ) → n < 10 → printed n ≡ last_digits 10 1 n
one_digit n small = rw (decimal_digit n small, last_digit n) (ap (λ d. d ∷ []) (omega (arith, small)))

-- a number below 10 to the power of most + 1 has as many places as `places` counts
places_printed : (most n : ℕ) → n < 10 ^ suc most → n < 2 ^ 64 → printed n ≡ last_digits 10 (places most n) n
unfolding places
places_printed zero n h f = one_digit n h
places_printed (suc most) n h f =
    by_test (ltb n 10)
    (λ t. rw (t, places) (one_digit n (ltb-true n 10 t)))
    (λ t.
    let large = ltb-false n 10 t in
    let above : n / 10 < 10 ^ suc most = (div-lt_iff_lt-mul (lit< tt)).1 (rw pow-suc at h) in
    rw (t, places, decimal_step n large f, last_digit n, places_printed most (n / 10) above (omega arith)))

-- a 64-bit number
pub decimal_printed : (n : ℕ) → n < 2 ^ 64 → printed n ≡ decimal n
unfolding decimal
decimal_printed n h = places_printed 19 n (omega arith) h

-- a number that k digits hold and fewer do not has k places
pub places_fewest : (most n k : ℕ) → k ≤ suc most → IsDigitCount 10 1 n k → places most n ≡ k
unfolding places
places_fewest zero n k h f = omega arith
places_fewest (suc most) n zero h f = absurd (omega arith)
places_fewest (suc most) n (suc zero) h f = rw (lt-ltb n 10 f.1, places)
places_fewest (suc most) n (suc (suc j)) h f =
    let less : suc (suc j) - 1 ≡ suc j = omega arith in
    let low : 10 ^ suc j ≤ n = rw less at (f.2 (omega arith)) in
    let one : 1 ≤ suc j = omega arith in
    let ten : 10 ≤ n = le_trans (pow-le-pow_right (lit< tt) one) low in
    let above : n / 10 < 10 ^ suc j = (div-lt_iff_lt-mul (lit< tt)).1 (rw pow-suc at f.1) in
    let same : suc j - 1 ≡ j = omega arith in
    let below : 1 < suc j → 10 ^ (suc j - 1) ≤ n / 10 = λ g. rw same ((le-div_iff_mul-le (lit< tt)).1 (rw pow-suc at low)) in
    rw (le-ltb n 10 ten, places, places_fewest most (n / 10) (suc j) (omega arith) (one, above, below))

-- a 64-bit number has at most 20 digits
pub fewest_most : (n k : ℕ) → n < 2 ^ 64 → IsDigitCount 10 1 n k → k ≤ 20
fewest_most n k h f =
    by_test (ltb 20 k)
    (λ t.
    let g = ltb-true 20 k t in
    let more : 20 ≤ k - 1 = omega arith in
    let low : 10 ^ 20 ≤ n = le_trans (pow-le-pow_right (lit< tt) more) (f.2 (omega arith)) in
    omega arith)
    (λ t. omega (arith, ltb-false 20 k t))

-- its digits are the number in decimal
pub decimal_of : (n k : ℕ) → k ≤ 20 → IsDigitCount 10 1 n k → last_digits 10 k n ≡ decimal n
unfolding decimal
decimal_of n k h f = rw (places_fewest 19 n k h f)
