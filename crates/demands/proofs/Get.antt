-- On a well-formed index get answers what the index holds: the halving over starts finds the one segment that has the position.
use Prim.Native.Nat.{ℕ, zero, suc, ◌+◌, ◌-◌, ◌≤◌, ◌<◌}
use mathlib.Core.Bool.{false}
use mathlib.Core.List.{List}
use mathlib.Core.Path.{◌≡◌, refl, sym, ap, ◌∙◌}
use native.Mathlib.Omega.{arith}
use lib.Dec.{ltb, eqb}
use lib.ListN.{length, get_or}
use borrow.Author.Tests.{lt-ltb, le-ltb, eq-eqb, ne_eqb}
use Rattle.rules.specs.Words.{value}
use Rattle.rules.specs.Record.{Index, length_of, segments_of, widths_of, start, width, edge}
use Rattle.rules.specs.Reading.{delta_read, read_in, starts_up_to, get_rule}
use Rattle.rules.specs.Audit.{deltas}
use Rattle.laws.proofs.Tests.{taken}
use Rattle.laws.proofs.Bytes.{delta_room}
use Rattle.demands.proofs.Compare.{by_less, by_order}
use Rattle.demands.proofs.WellFormed.{WellFormed, edge_at, edge_last, mark_at}
use Rattle.demands.proofs.Bounds.{counts_hold_lem, edge_mono, edge_most}
use Rattle.demands.proofs.Holds.{item_of, Holds}
use Rattle.demands.proofs.Run.{Keeps}
use Rattle.demands.proofs.Search.{upto_within, upto_last, upto_next}

-- position p lies in segment s
record In (x : Index) (s p : ℕ) : Type 0 where
  inside : s < segments_of x
  from : edge x s ≤ p
  before : p < edge x (s + 1)

module _ (x : Index) (w : WellFormed x) where
  -- no segment before another has its positions
  in_apart : (s t p : ℕ) → s < t → In x s p → In x t p → ⊥
  in_apart s t p l a b =
      let a2 = a.before in let b0 = b.inside in let b1 = b.from in
      let m = edge_mono x w (s + 1) t (omega arith) (omega arith) in
      omega arith

  -- there is one segment for a position
  in_one : (s t p : ℕ) → In x s p → In x t p → s ≡ t
  in_one s t p a b = by_order s t (λ l. absurd (in_apart s t p l a b)) (λ e. e) (λ l. absurd (in_apart t s p l b a))

  -- the halving over starts finds it
  found : (p : ℕ) → p < length_of x → (0 < starts_up_to x p) × In x (starts_up_to x p - 1) p
  unfolding starts_up_to
  found p h =
      let c = w.counts in
      let k = starts_up_to x p in
      let top = upto_within x.starts (segments_of x) p in
      let next = upto_next x.starts (segments_of x) p in
      let zero-start : start x 0 ≡ 0 = sym (edge_at x 0 (omega arith)) ∙ w.zero_edge in
      let pos : 0 < k = by_less 0 k (λ l. l)
      (λ l.
      let e : start x k ≡ start x 0 = let z : k ≡ 0 = omega arith in ap (start x) z in
      let n = next (omega arith) in absurd (omega arith)) in
      let low = upto_last x.starts (segments_of x) p pos in
      let here = edge_at x (k - 1) (omega arith) in
      let above : p < edge x k = by_less k (segments_of x)
      (λ l. let n = next l in let e = edge_at x k l in omega arith)
      (λ l. let e = edge_last x k l in omega arith) in
      let back : k - 1 + 1 ≡ k = omega arith in
      (pos, record { inside = omega arith; from = omega arith; before = rw back above })

  -- a segment with a delta has a width
  has_width : (s i : ℕ) → s < segments_of x → edge x s + suc i < edge x (s + 1) → s < widths_of x
  has_width s i h l =
      let c = w.counts in
      by_less s (widths_of x) (λ g. g)
      (λ g. let b = (w.bare s g h).0 in let top = edge_last x (s + 1) (omega arith) in absurd (omega arith))

  -- a read in the right segment
  read_in_lem : (s i : ℕ) → s < segments_of x → edge x s + i < edge x (s + 1) → read_in x s (edge x s + i) ≡ value (item_of x s i)
  unfolding read_in delta_read
  read_in_lem s zero h l =
      let e : edge x s + 0 ≡ start x s = let q = edge_at x s h in omega arith in
      rw (e, le-ltb (start x s) (start x s) (omega arith), eq-eqb (start x s) (start x s) refl)
  read_in_lem s (suc i) h l =
      let p = edge x s + suc i in
      let has = has_width s i h l in
      let o = w.whole s has in
      let ends = o.ends in
      let inside = o.inside in
      let q = edge_at x s h in
      let m = mark_at x s h in
      let r = delta_room (deltas x s) (width x s) i (omega arith) in
      let n : p - start x s - 1 ≡ i = omega arith in
      let t1 : ltb p (start x s) ≡ false = le-ltb p (start x s) (omega arith) in
      let t2 : eqb p (start x s) ≡ false = ne_eqb p (start x s) (λ e. omega arith) in
      rw (t1, t2, lt-ltb s (widths_of x) has, n, m) (taken _ _ _ (o.least, (o.most, (omega arith, (rw m at (o.fits i (omega arith)), tt)))))

  -- get of the position of a segment's value number i
  pub get_at : (s i : ℕ) → s < segments_of x → edge x s + i < edge x (s + 1) → get_rule x (edge x s + i) ≡ value (item_of x s i)
  unfolding get_rule
  get_at s i h l =
      let p = edge x s + i in
      let m = edge_most x w (s + 1) (omega arith) in
      let g : p < length_of x = omega arith in
      let f = found p g in
      let f0 = f.0 in
      let e = in_one (starts_up_to x p - 1) s p f.1 (record { inside = h; from = omega arith; before = l }) in
      rw (counts_hold_lem x w, lt-ltb p (length_of x) g, ne_eqb (starts_up_to x p) 0 (λ z. omega arith), e) (read_in_lem s i h l)

  -- get answers what the index holds
  get_holds : (p v : ℕ) → Holds x p v → get_rule x p ≡ value v
  get_holds p v h =
      let e = h.here in
      let b = h.before in
      rw (e, h.is) at (get_at h.seg h.nth h.inside (omega arith))

  -- a position below length has a value
  pub get_value : (p : ℕ) → p < length_of x → (v : ℕ) × (get_rule x p ≡ value v)
  get_value p h =
      let f = (found p h).1 in
      let s = starts_up_to x p - 1 in
      let low = f.from in
      let v = item_of x s (p - edge x s) in
      (v, get_holds p v (record { seg = s; nth = p - edge x s; inside = f.inside; here = omega arith; before = f.before; is = refl }))

-- get answers the values kept, in order
pub get_kept : (x : Index) (vs : List ℕ) → Keeps x vs → (i : ℕ) → i < length vs → get_rule x i ≡ value (get_or vs i 0)
get_kept x vs k i h = let m = k.many in get_holds x k.well i (get_or vs i 0) (k.holds i (omega arith))
