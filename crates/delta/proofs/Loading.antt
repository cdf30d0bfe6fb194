-- Loading: a delta grows by one byte in front; eight bytes cut to the width are the delta; one law over the width for every cut.
use Prim.Native.Nat.{ℕ, zero, suc, ◌+◌, ◌-◌, ◌*◌, ◌/◌, ◌%◌, ◌^◌, ◌≤◌, ◌<◌}
use mathlib.Core.List.{List, [], ◌∷◌, reverse}
use mathlib.Core.Path.{◌≡◌, refl, sym, ap, ◌∙◌}
use native.Mathlib.Numerals.{add-one}
use native.Mathlib.Omega.{arith}
use native.Mathlib.Nat.{add-suc, add-zero, pow-suc, pow-le-pow_right, one-le-pow, lt_of_lt_of_le, mod-lt, mod-one, mod-eq_of_lt, mod-add-div, add-mul-mod_self_left, add-mul, mul_assoc, mul_comm, mul-div_cancel, le-div_iff_mul-le, div-lt_iff_lt-mul}
use lib.Dec.{lit<, leb}
use lib.Bits.{bit_or}
use lib.ListN.{length, get_or, take, drop}
use lib.Pow.{pow-add}
use borrow.Author.Tests.{leb-true, leb-false, le-leb, lt-leb}
use Rattle.std.specs.List.{fold}
use Rattle.std.proofs.lemmas.List.{get_or-drop, get_or-take, length-drop, length-take-le, reverse-append}
use Rattle.std.proofs.lemmas.List.Sums.{fold_push}
use Rattle.std.proofs.lemmas.Nat.{or_shifted}
use Rattle.rules.specs.Push.{delta_at}
use Rattle.laws.proofs.Tests.{by_test}
use Rattle.laws.proofs.Widths.{bytes_pow}
use Rattle.laws.proofs.Bytes.{delta_room, delta_at_below, delta_same}

-- one byte more, in front
delta_grow : (s : List ℕ) (at k : ℕ) → delta_at s at (k + 1) ≡ delta_at s (at + 1) k * 256 + get_or s at 0
unfolding delta_at
delta_grow s at k = rw (add-one k, add-one at, delta_at) (omega arith)

-- a byte in front of the i-th to the last of w bytes
module _ (s : List ℕ) (at w i v : ℕ) (pos : 0 < i) (le : i ≤ w) where
  -- makes the next number
  pub delta_turn : v ≡ delta_at s (at + i) (w - i) → v * 256 + get_or s (at + (i - 1)) 0 ≡ delta_at s (at + (i - 1)) (w - (i - 1))
  delta_turn e =
      let e1 : w - (i - 1) ≡ (w - i) + 1 = omega arith in
      let e2 : at + (i - 1) + 1 ≡ at + i = omega arith in
      rw (e1, delta_grow s (at + (i - 1)) (w - i), e2, e)

  -- which is below 256 to the number of its bytes
  pub below_turn : (b : ℕ) → v < 256 ^ (w - i) → b < 256 → v * 256 + b < 256 ^ (w - (i - 1))
  below_turn b hv hb =
      let e1 : w - (i - 1) ≡ suc (w - i) = omega arith in
      rw (e1, pow-suc 256 (w - i)) (omega arith)

-- up to 8 bytes fit 64 bits
pub below_fits : (k v : ℕ) → k ≤ 8 → v < 256 ^ k → v < 2 ^ 64
below_fits k v hk hv = lt_of_lt_of_le hv (pow-le-pow_right {n = 256} (lit< tt) hk)

-- a part's deltas are the whole's
pub delta_drop : (s : List ℕ) (from at k : ℕ) → delta_at (drop from s) at k ≡ delta_at s (from + at) k
unfolding delta_at
delta_drop s from at zero = refl
delta_drop s from at (suc k) = rw (get_or-drop, delta_drop s from (suc at) k, add-suc) refl

-- so all of a part make the delta that stands there
pub delta_part : (s : List ℕ) (from n : ℕ) → from + n ≤ length s → delta_at (take n (drop from s)) 0 (length (take n (drop from s))) ≡ delta_at s from n
delta_part s from n h =
    let rest = drop from s in
    let long : n ≤ length rest = omega (arith, length-drop from s) in
    ap (delta_at (take n rest) 0) (length-take-le n rest long)
    ∙ delta_same (take n rest) rest n 0 n (λ i l. get_or-take n rest i 0 l) (omega arith)
    ∙ delta_drop s from 0 n
    ∙ rw add-zero

-- the number that some bytes make, of those that stand first the rest's, and one byte in front
number_front : (b : ℕ) (s : List ℕ) → delta_at (b ∷ s) 0 (length (b ∷ s)) ≡ delta_at s 0 (length s) * 256 + b
unfolding delta_at
number_front b s = rw (← delta_drop (b ∷ s) 1 0 (length s)) (omega arith)

-- one byte more, shifted in
abbrev pub shift_in : ℕ → ℕ → ℕ
shift_in v b = bit_or (v * 256 % 18446744073709551616) b

-- it is one byte in front, where fewer than eight are there
shift_step : (k v b : ℕ) → k < 8 → v < 256 ^ k → b < 256 → shift_in v b ≡ v * 256 + b
shift_step k v b h below hb =
    let most : 256 ^ suc k ≤ 256 ^ 8 = pow-le-pow_right {n = 256} (lit< tt) h in
    let fits : v * 256 < 18446744073709551616 = omega (arith, pow-suc 256 k) in
    ap (λ z. bit_or z b) (mod-eq_of_lt fits) ∙ or_shifted v 8 b hb

-- the bytes shifted in from the last to the first make the number
pub shifted_in : (s : List ℕ) → length s ≤ 8 → ((i : ℕ) → i < length s → get_or s i 0 < 256) → fold shift_in 0 (reverse s) ≡ delta_at s 0 (length s)
unfolding delta_at
shifted_in [] h b = refl
shifted_in (x ∷ s) h b =
    let below = delta_at_below s (length s) (length s) 0 (λ i l. b (suc i) (omega arith)) (omega arith) in
    rw (reverse-append (x ∷ []) s, fold_push, shifted_in s (omega arith) (λ i l. b (suc i) (omega arith)), number_front x s)
    (shift_step (length s) (delta_at s 0 (length s)) x (omega arith) below (b 0 (omega arith)))

-- a remainder by a multiple of k keeps what is below k
mod_scale : (q b M k : ℕ) → 0 < M → b < k → (q * k + b) % (M * k) ≡ q % M * k + b
mod_scale q b M k pos h =
    let e0 : q % M * k + M * (q / M) * k ≡ q * k = sym (add-mul (q % M) (M * (q / M)) k) ∙ ap (λ z. z * k) (mod-add-div q M) in
    let e1 : M * k * (q / M) ≡ M * (q / M) * k = mul_assoc M k (q / M) ∙ ap (λ z. M * z) (mul_comm k (q / M)) ∙ sym (mul_assoc M (q / M) k) in
    let e : q * k + b ≡ (q % M * k + b) + M * k * (q / M) = omega (arith, e0, e1) in
    let l = delta_room M k (q % M) (mod-lt q pos) in
    ap (λ z. z % (M * k)) e ∙ add-mul-mod_self_left (q % M * k + b) (M * k) (q / M) ∙ mod-eq_of_lt (omega arith)

-- more bytes, cut to the first w, are the delta of w bytes
delta_mod : (w k : ℕ) (s : List ℕ) (at : ℕ) → at + (w + k) ≤ length s → ((i : ℕ) → i < length s → get_or s i 0 < 256) → delta_at s at (w + k) % 256 ^ w ≡ delta_at s at w
unfolding delta_at
delta_mod zero k s at h b = mod-one _
delta_mod (suc w) k s at h b =
    let e1 : suc w + k ≡ (w + k) + 1 = omega arith in
    let e2 : suc w ≡ w + 1 = omega arith in
    ap (λ x. delta_at s at x % 256 ^ suc w) e1
    ∙ ap (λ x. x % 256 ^ suc w) (delta_grow s at (w + k))
    ∙ ap (λ x. (delta_at s (at + 1) (w + k) * 256 + get_or s at 0) % x) (pow-suc 256 w)
    ∙ mod_scale (delta_at s (at + 1) (w + k)) (get_or s at 0) (256 ^ w) 256 (one-le-pow w 256 (lit< tt)) (b at (omega arith))
    ∙ ap (λ x. x * 256 + get_or s at 0) (delta_mod w k s (at + 1) (omega arith) b)
    ∙ sym (delta_grow s at w)
    ∙ ap (delta_at s at) (sym e2)

-- 64 bits are w bytes and the bits above them
module _ (w : ℕ) (least : 1 ≤ w) (most : w ≤ 8) where
  abbrev above : ℕ
  above = 2 ^ (64 - 8 * w)

  split : 256 ^ w * above ≡ 18446744073709551616
  split = let e : 8 * w + (64 - 8 * w) ≡ 64 = omega arith in ap (λ z. z * above) (bytes_pow w) ∙ sym (pow-add 2 (8 * w) (64 - 8 * w)) ∙ ap (λ z. 2 ^ z) e

  some : 0 < above
  some = one-le-pow (64 - 8 * w) 2 (lit< tt)

  -- a word shifted up and down again keeps its low w bytes
  shift_cut : (x : ℕ) → x * 2 ^ (64 - 8 * w) % 2 ^ 64 / 2 ^ (64 - 8 * w) ≡ x % 256 ^ w
  shift_cut x =
      let e = mod_scale x 0 (256 ^ w) above (one-le-pow w 256 (lit< tt)) some in
      let e1 : x * above % 18446744073709551616 ≡ x % 256 ^ w * above = rw (← split) (ap (λ z. z % (256 ^ w * above)) (omega arith) ∙ e ∙ omega arith) in
      ap (λ z. z / above) e1 ∙ mul-div_cancel (x % 256 ^ w) some

  -- so w bytes or more, shifted up and down again, are the delta of w bytes
  pub word_cut : (s : List ℕ) (at n : ℕ) → w ≤ n → at + n ≤ length s → ((i : ℕ) → i < length s → get_or s i 0 < 256) → delta_at s at n * 2 ^ (64 - 8 * w) % 2 ^ 64 / 2 ^ (64 - 8 * w) ≡ delta_at s at w
  word_cut s at n more h b =
      let e : n ≡ w + (n - w) = omega arith in
      shift_cut (delta_at s at n) ∙ ap (λ x. delta_at s at x % 256 ^ w) e ∙ delta_mod w (n - w) s at (omega arith) b

  -- the same of a part's number, as a load gives it
  pub cut_part : (s : List ℕ) (at n : ℕ) → w ≤ n → at + n ≤ length s → ((i : ℕ) → i < length s → get_or s i 0 < 256)
      → (word : ℕ) → word ≡ delta_at (take n (drop at s)) 0 (length (take n (drop at s))) → word * 2 ^ (64 - 8 * w) % 2 ^ 64 / 2 ^ (64 - 8 * w) ≡ delta_at s at w
  cut_part s at n more h b word e =
      ap (λ z. z * 2 ^ (64 - 8 * w) % 2 ^ 64 / 2 ^ (64 - 8 * w)) (e ∙ delta_part s at n h) ∙ word_cut s at n more h b

  -- the largest 64-bit number shifted down is the largest of w bytes
  shift_most : 18446744073709551615 / above + 1 ≡ 256 ^ w
  shift_most =
      let p = one-le-pow w 256 (lit< tt) in
      let r = delta_room (256 ^ w) above (256 ^ w - 1) (omega arith) in
      let low : 256 ^ w - 1 ≤ 18446744073709551615 / above = (le-div_iff_mul-le some).1 (omega (arith, split, some)) in
      let high : 18446744073709551615 / above < 256 ^ w = (div-lt_iff_lt-mul some).1 (omega (arith, split, some)) in
      omega arith

  -- so base and any delta of w bytes fit 64 bits where the largest such delta leaves room for the base
  pub fit_same : (base : ℕ) → base < 2 ^ 64 → leb (18446744073709551615 / 2 ^ (64 - 8 * w)) (18446744073709551615 - base) ≡ leb (base + 256 ^ w) (2 ^ 64)
  fit_same base b =
      let e = shift_most in
      by_test (leb (base + 256 ^ w) (2 ^ 64))
      (λ t. let u = leb-true (base + 256 ^ w) (2 ^ 64) t in le-leb (18446744073709551615 / above) (18446744073709551615 - base) (omega arith) ∙ sym t)
      (λ t. let u = leb-false (base + 256 ^ w) (2 ^ 64) t in lt-leb (18446744073709551615 / above) (18446744073709551615 - base) (omega arith) ∙ sym t)
