-- Ranges: get at each position, so values on a well-formed index, and on one that pushes made the accepted ones.
use Prim.Native.Nat.{ℕ, zero, suc, ◌+◌, ◌-◌, ◌≤◌, ◌<◌, min, max}
use mathlib.Core.Bool.{true}
use mathlib.Core.List.{List, [], ◌∷◌, ◌++◌}
use mathlib.Core.Path.{◌≡◌, refl}
use native.Mathlib.Omega.{arith}
use native.Mathlib.Nat.{zero-add}
use lib.Dec.{leb}
use lib.ListN.{length, get_or, take, drop, length-drop}
use lib.Seq.{sets, sets-eq, drop-cons, length-take-le}
use borrow.Author.Tests.{leb-true, lt-ltb, le-ltb, le-leb}
use Rattle.rules.specs.Words.{Answer, value}
use Rattle.rules.specs.Record.{Index, length_of, counts_hold}
use Rattle.rules.specs.Reading.{in_range, reads, ranged, range_rule, cursor, iter_rule, span, target_end, target_rule, bisect_range_rule}
use Rattle.rules.specs.Run.{how_many, NeverFalls}
use Rattle.laws.proofs.Tests.{by_test}
use Rattle.demands.proofs.WellFormed.{WellFormed}
use Rattle.demands.proofs.Bounds.{counts_hold_lem}
use Rattle.demands.proofs.Run.{Keeps}
use Rattle.demands.proofs.Get.{get_value, get_kept}
use Rattle.demands.proofs.Bisect.{bisect_counts}

-- a..b is a range that is not refused 9, 6 or 7
abbrev pub Within : Index → ℕ → ℕ → Type 0
Within x a b = (counts_hold x ≡ true) × (b ≤ length_of x) × (a ≤ b)

module _ (x : Index) (a b : ℕ) where
  -- the answer is the rest
  in_range_lem : {A : Type 0} (rest : Answer A) → Within x a b → in_range x a b rest ≡ rest
  in_range_lem rest w = rw (w.0, le-leb b (length_of x) w.1, le-leb a b w.2)

  -- a range that answers a value is one
  pub range_within : {A : Type 0} (rest : Answer A) (v : A) → in_range x a b rest ≡ value v → Within x a b
  range_within rest v e =
      by_test (counts_hold x)
      (λ t. by_test (leb b (length_of x))
      (λ u. by_test (leb a b)
      (λ s. (t, leb-true b (length_of x) u, leb-true a b s))
      (λ s. let z = rw (t, u, s) at e in cc))
      (λ u. let z = rw (t, u) at e in cc))
      (λ t. let z = rw t at e in cc)

  -- opening a cursor over it
  pub iter_opens : Within x a b → iter_rule x a b ≡ value (cursor a b)
  unfolding iter_rule
  iter_opens w = in_range_lem _ w

  -- get_range writes the reads from the first entry on, and the rest of the output stays
  pub range_reads : (vs out : List ℕ) → Within x a b → reads x a (b - a) ≡ value vs → length vs ≡ b - a → b - a ≤ length out
      → range_rule x a b out ≡ ranged (value (b - a)) (vs ++ drop (b - a) out)
  unfolding range_rule
  range_reads vs out w r len o =
      let put : sets out 0 vs ≡ vs ++ drop (b - a) out = rw (len, zero-add (b - a)) at (sets-eq vs out 0 (omega arith)) in
      rw (in_range_lem _ w, le-leb (b - a) (length out) o, r, len, put)

module _ (x : Index) (w : WellFormed x) where
  -- the reads within length are values
  pub reads_values : (n a : ℕ) → a + n ≤ length_of x → (vs : List ℕ) × (reads x a n ≡ value vs)
  unfolding reads
  reads_values zero a h = ([], refl)
  reads_values (suc n) a h =
      let g = get_value x w a (omega arith) in
      let r = reads_values n (suc a) (omega arith) in
      (g.0 ∷ r.0, rw (g.1, r.1))

module _ (x : Index) (vs : List ℕ) (k : Keeps x vs) where
  -- a..b within the values kept
  within_kept : (a b : ℕ) → a ≤ b → b ≤ length vs → Within x a b
  within_kept a b h l = let m = k.many in (counts_hold_lem x k.well, omega arith, h)

  -- the reads are the values kept
  pub reads_kept : (n a : ℕ) → a + n ≤ length vs → reads x a n ≡ value (take n (drop a vs))
  unfolding reads
  reads_kept zero a h = refl
  reads_kept (suc n) a h =
      rw (get_kept x vs k a (omega arith), reads_kept n (suc a) (omega arith), drop-cons vs a 0 (omega arith))

  -- get_range writes them
  pub range_kept : (a b : ℕ) (out : List ℕ) → a ≤ b → b ≤ length vs → b - a ≤ length out
      → range_rule x a b out ≡ ranged (value (b - a)) (take (b - a) (drop a vs) ++ drop (b - a) out)
  range_kept a b out h l o =
      let len = length-take-le (b - a) (drop a vs) (let e = length-drop a vs in omega arith) in
      range_reads x a b _ out (within_kept a b h l) (reads_kept (b - a) a (omega arith)) len o

  -- opening a cursor over a..b
  pub iter_kept : (a b : ℕ) → a ≤ b → b ≤ length vs → iter_rule x a b ≡ value (cursor a b)
  iter_kept a b h l = iter_opens x a b (within_kept a b h l)

  -- target_range goes from a value to the next one, at most t
  pub target_kept : (i t : ℕ) → i + 1 < length vs → target_rule x i t ≡ value (span (get_or vs i 0) (min (get_or vs (i + 1) 0) t))
  unfolding target_rule target_end
  target_kept i t h =
      let m = k.many in
      rw (get_kept x vs k i (omega arith), get_kept x vs k (i + 1) h, le-ltb (length_of x) (i + 2) (omega arith))

  -- and from the last one to t
  pub target_last : (i t : ℕ) → i + 1 ≡ length vs → target_rule x i t ≡ value (span (get_or vs i 0) t)
  unfolding target_rule target_end
  target_last i t h = let m = k.many in rw (get_kept x vs k i (omega arith), lt-ltb (length_of x) (i + 2) (omega arith))

  -- on values that never fall, bisect_range_left is how many are below v, moved into the range
  pub bisect_range_counts : NeverFalls vs → (a b v : ℕ) → a ≤ b → b ≤ length vs → bisect_range_rule x a b v ≡ value (min b (max a (how_many v vs)))
  unfolding bisect_range_rule
  bisect_range_counts n a b v h l = rw (bisect_counts x vs k n v) (in_range_lem x a b _ (within_kept a b h l))
