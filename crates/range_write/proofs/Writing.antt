-- Putting values: runs of puts one after another, into a part of the output that is lent, and the base and deltas of a segment as its reads.
use Prim.Native.Nat.{ℕ, zero, suc, ◌+◌, ◌-◌, ◌*◌, ◌^◌, ◌≤◌, ◌<◌}
use mathlib.Core.Bool.{true, false}
use mathlib.Core.List.{List, ◌++◌}
use mathlib.Core.Path.{◌≡◌, refl, sym, ap, ◌∙◌}
use native.Mathlib.Omega.{arith}
use native.Mathlib.Nat.{suc-mul, add-mul}
use native.Mathlib.Numerals.{add-one}
use lib.Dec.{ltb, eqb}
use borrow.Rule.Slice.PartMut.{put_mid, mid_of, post_of}
use Rattle.std.specs.List.{between}
use Rattle.std.proofs.lemmas.List.{take-append-drop, length-take-le, length-drop, set-append_left, set-append_right}
use Rattle.std.proofs.lemmas.List.Edits.{length-between}
use lib.ListN.{length, take, drop, set, length-set}
use borrow.Author.Tests.{eqb-true, eqb-false, le-ltb, ne_eqb}
use Rattle.rules.specs.Record.{Index, minimum_of, widths_of, used_of, start, base, offset, width}
use Rattle.rules.specs.Push.{delta_at}
use Rattle.rules.specs.Reading.{delta_read, read_in}
use Rattle.laws.proofs.Tests.{by_test, false_not_true, when_all_case}
use Rattle.range_reads.specs.Values.{is_value, ValuesIn, Run}
use Rattle.range_reads.proofs.Deciding.{delta_between}
use Rattle.range_write.specs.Puts.{value_of, sums, in_segment, puts, Based}

-- nothing put
pub puts_none : (f : ℕ → ℕ) (from : ℕ) (out : List ℕ) → out ≡ puts f from 0 out
unfolding puts
puts_none f from out = refl

-- one more put
pub puts_more : (f : ℕ → ℕ) (from n i : ℕ) (out : List ℕ) → i ≡ from + n → set (puts f from n out) i (f n) ≡ puts f from (n + 1) out
unfolding puts
puts_more f from n i out e = rw (add-one n, e)

-- puts keep the length
pub puts_length : (f : ℕ → ℕ) (from n : ℕ) (out : List ℕ) → length (puts f from n out) ≡ length out
unfolding puts
puts_length f from zero out = refl
puts_length f from (suc n) out = simp length-set (puts_length f from n out)

-- two runs of puts, one after another
pub puts_join : (f g : ℕ → ℕ) (from k n : ℕ) (out : List ℕ) → ((j : ℕ) → j < n → g j ≡ f (k + j)) → puts g (from + k) n (puts f from k out) ≡ puts f from (k + n) out
unfolding puts
puts_join f g from k zero out h = let e : k + 0 ≡ k = omega arith in rw e
puts_join f g from k (suc n) out h =
    let e : k + suc n ≡ suc (k + n) = omega arith in
    let e2 : from + k + n ≡ from + (k + n) = omega arith in
    rw (e, puts, puts_join f g from k n out (λ j l. h j (omega arith)), h n (omega arith), e2)

-- the k entries from entry d on
pub part_length : (d k : ℕ) (out : List ℕ) → d + k ≤ length out → length (mid_of d k out) ≡ k
part_length d k out h = length-take-le k (drop d out) (omega (arith, length-drop d out))

-- puts into the k entries from entry d on, as lent
puts_within : (f : ℕ → ℕ) (d k m : ℕ) (out : List ℕ) → d + k ≤ length out → m ≤ k → put_mid d k out (puts f 0 m (mid_of d k out)) ≡ puts f d m out
unfolding puts
puts_within f d k zero out h l = ap (λ (ys : List ℕ). take d out ++ ys) (take-append-drop k (drop d out)) ∙ take-append-drop d out
puts_within f d k (suc m) out h l =
    let ys = puts f 0 m (mid_of d k out) in
    let long : length ys ≡ k = puts_length f 0 m (mid_of d k out) ∙ part_length d k out h in
    let e : d + m - d ≡ 0 + m = omega arith in
    sym (ap (λ (o : List ℕ). set o (d + m) (f m)) (sym (puts_within f d k m out h (omega arith)))
    ∙ set-append_right (take d out) (ys ++ post_of d k out) d (d + m) (f m) (length-take-le d out (omega arith)) (omega arith)
    ∙ ap (λ (zs : List ℕ). take d out ++ zs) (rw e (set-append_left ys (post_of d k out) (0 + m) (f m) (omega arith))))

-- after puts that reach up to those k entries, puts that fill them make one run
pub puts_part : (f g : ℕ → ℕ) (d k n : ℕ) (out now left : List ℕ) → d + k ≤ length out → n ≡ d + k → ((j : ℕ) → j < k → g j ≡ f (d + j))
    → now ≡ puts f 0 d out → left ≡ puts g 0 (length (mid_of d k now)) (mid_of d k now) → put_mid d k now left ≡ puts f 0 n out
puts_part f g d k n out now left h e same e1 e2 =
    let long : length now ≡ length out = ap length e1 ∙ puts_length f 0 d out in
    let part = part_length d k now (omega arith) in
    let z : d ≡ 0 + d = omega arith in
    ap (put_mid d k now) (e2 ∙ ap (λ (m : ℕ). puts g 0 m (mid_of d k now)) part)
    ∙ puts_within g d k k now (omega arith) (omega arith) ∙ ap (puts g d k) e1 ∙ ap (λ (i : ℕ). puts g i k (puts f 0 d out)) z ∙ puts_join f g 0 d k out same
    ∙ ap (λ (m : ℕ). puts f 0 m out) (sym e)

-- the place of the next delta
pub next_place : (i w : ℕ) → i * w + w ≡ (i + 1) * w
next_place i w = rw (add-one i, suc-mul i w)

-- delta j after that of position q is that of position q + j
delta_place : (o s q j w : ℕ) → s < q → o + (q - s - 1) * w + j * w ≡ o + (q + j - s - 1) * w
delta_place o s q j w h = let b : q + j - s - 1 ≡ (q - s - 1) + j = omega arith in rw (b, add-mul (q - s - 1) j w) (omega arith)

-- what a delta's read that gives a value says
delta_of : (m used : ℕ) (bytes : List ℕ) (base offset i w : ℕ) → is_value (delta_read m used bytes base offset i w) ≡ true
    → (m ≤ w) × (w ≤ 8) × (offset + i * w + w ≤ used) × (base + delta_at bytes (offset + i * w) w < 2 ^ 64)
    × (value_of (delta_read m used bytes base offset i w) ≡ base + delta_at bytes (offset + i * w) w)
unfolding delta_read
delta_of m used bytes base offset i w =
    when_all_case (λ r. is_value r ≡ true → (m ≤ w) × (w ≤ 8) × (offset + i * w + w ≤ used) × (base + delta_at bytes (offset + i * w) w < 2 ^ 64)
    × (value_of r ≡ base + delta_at bytes (offset + i * w) w)) _
    (λ f e. (f.0, f.1.0, f.1.1.0, f.1.1.1.0, refl))
    (λ n e. false_not_true false e refl)

module _ (x : Index) (k : ℕ) where
  -- where the delta of position q starts, with deltas of w bytes
  abbrev place : ℕ → ℕ → ℕ
  place q w = offset x k + (q - start x k - 1) * w

  -- position q of segment k is a delta that gives a value
  record DeltaOf (q : ℕ) : Type 0 where
    pub has : ltb k (widths_of x) ≡ true
    pub least : minimum_of x ≤ width x k
    pub most : width x k ≤ 8
    pub ends : place q (width x k) + width x k ≤ used_of x
    pub fits : base x k + delta_at x.bytes (place q (width x k)) (width x k) < 2 ^ 64
    pub is : value_of (read_in x k q) ≡ base x k + delta_at x.bytes (place q (width x k)) (width x k)

  -- a read after the start that is a value is one
  read_delta : (q : ℕ) → start x k < q → is_value (read_in x k q) ≡ true → DeltaOf q
  unfolding read_in
  read_delta q h e =
      let l = le-ltb q (start x k) (omega arith) in
      let n = ne_eqb q (start x k) (λ z. absurd (omega arith)) in
      by_test (ltb k (widths_of x))
      (λ t.
      let d = delta_of (minimum_of x) (used_of x) x.bytes (base x k) (offset x k) (q - start x k - 1) (width x k) (rw (l, n, t, read_in) at e) in
      record { has = t; least = d.0; most = d.1; ends = d.2; fits = d.3; is = rw (l, n, t, read_in) d.4 })
      (λ t. false_not_true false (rw (l, n, t, read_in) at e) refl)

  -- the n deltas of w bytes from position q on: their bytes are in use, their sums fit, and they are the reads
  pub record RunOf (w q n : ℕ) : Type 0 where
    pub has : ltb k (widths_of x) ≡ true
    pub least : minimum_of x ≤ w
    pub most : w ≤ 8
    pub from : place q w ≤ used_of x
    pub room : place q w + n * w ≤ used_of x
    pub run : Run (between (place q w) (length x.bytes) x.bytes) (base x k) w n
    pub same : (j : ℕ) → j < n → sums (between (place q w) (length x.bytes) x.bytes) (base x k) w j ≡ value_of (read_in x k (q + j))

  -- reads that are all values are such deltas
  pub run_of : (w q n : ℕ) → width x k ≡ w → used_of x ≤ length x.bytes → ValuesIn x k q (q + n) → start x k < q → 0 < n → RunOf w q n
  run_of w q n c room good l some =
      let w = width x k in
      let d : (j : ℕ) → j < n → DeltaOf (q + j) = λ j i. read_delta (q + j) (omega arith) (good (q + j) (omega arith) (omega arith)) in
      let moved = λ (j : ℕ). delta_place (offset x k) (start x k) q j w l in
      let ends : (j : ℕ) → j < n → place q w + j * w + w ≤ used_of x = λ j i. rw (moved j) (d j i).ends in
      let long = length-between x.bytes (place q w) (length x.bytes) (omega arith) in
      let last : n - 1 + 1 ≡ n = omega arith in
      let all : (n - 1) * w + w ≡ n * w = next_place (n - 1) w ∙ ap (λ (j : ℕ). j * w) last in
      let at : (j : ℕ) → j < n → delta_at (between (place q w) (length x.bytes) x.bytes) (j * w) w ≡ delta_at x.bytes (place (q + j) w) w =
      λ j i. delta_between x.bytes (place q w) (length x.bytes) (j * w) w (omega (arith, ends j i)) ∙ ap (λ (o : ℕ). delta_at x.bytes o w) (moved j) in
      rw (← c) (record {
        has = (d 0 some).has;
        least = (d 0 some).least;
        most = (d 0 some).most;
        from = omega (arith, ends 0 some);
        room = omega (arith, ends (n - 1) (omega arith), all);
        run = λ j i. (omega (arith, ends j i), omega (arith, at j i, (d j i).fits));
        same = λ j i. ap (λ (v : ℕ). base x k + v) (at j i) ∙ sym (d j i).is;
      })

  -- the next position after the base is put
  pub based_next : (p r : ℕ) (out left : List ℕ) → Based (start x k) (base x k) p r out left → start x k ≤ p → (p ≤ r) × (r ≤ p + 1) × (start x k < r)
  based_next p r out left b h =
      by_test (eqb p (start x k))
      (λ t. let e = eqb-true p (start x k) t in let n : r ≡ p + 1 = b.next ∙ rw t in omega arith)
      (λ t. let e = eqb-false p (start x k) t in let n : r ≡ p = b.next ∙ rw t in omega arith)

  -- after the base, where entries are left: they are for the deltas from the next position on
  pub rest_of : (w p r m : ℕ) (out left : List ℕ) → Based (start x k) (base x k) p r out left → start x k ≤ p → width x k ≡ w → used_of x ≤ length x.bytes
      → ValuesIn x k p (p + m) → r - p < m → (p ≤ r) × RunOf w r (m - (r - p))
  rest_of w p r m out left b h c room good some =
      let n = based_next p r out left b h in
      (n.0, run_of w r (m - (r - p)) c room (λ q l u. good q (omega arith) (omega arith)) n.2 (omega arith))

  -- the base put is the read at its position
  pub based_puts : (p r : ℕ) (out left : List ℕ) → Based (start x k) (base x k) p r out left → left ≡ puts (in_segment x k p) 0 (r - p) out
  unfolding puts read_in
  based_puts p r out left b =
      by_test (eqb p (start x k))
      (λ t.
      let e = eqb-true p (start x k) t in
      let n : r ≡ p + 1 = b.next ∙ rw t in
      let m : r - p ≡ 1 = omega arith in
      let z : p + 0 ≡ p = omega arith in
      let v : value_of (read_in x k (p + 0)) ≡ base x k = rw (z, le-ltb p (start x k) (omega arith), t, read_in) in
      b.put ∙ rw (t, m, puts, v))
      (λ t.
      let n : r ≡ p = b.next ∙ rw t in
      let m : r - p ≡ 0 = omega arith in
      b.put ∙ rw (t, m, puts))
