-- What the audit bounds: edges and bases grow from segment to segment, so n values make few segments and few data bytes.
use Prim.Native.Nat.{ℕ, zero, suc, ◌+◌, ◌-◌, ◌*◌, ◌/◌, ◌^◌, ◌≤◌, ◌<◌}
use mathlib.Core.Bool.{true}
use mathlib.Core.Path.{◌≡◌, refl}
use native.Mathlib.Omega.{arith}
use native.Mathlib.Numerals.{add-one}
use native.Mathlib.Nat.{pow-le-pow_right, mul-le-mul_left, suc-mul, le-div_iff_mul-le, one-le-pow}
use lib.Dec.{lit<}
use Rattle.rules.specs.Record.{Index, minimum_of, length_of, segments_of, widths_of, used_of, last_of, base, width, edge, mark, counts_hold}
use Rattle.laws.proofs.Counts.{facts_counts}
use Rattle.demands.proofs.Compare.{by_less, rises}
use Rattle.demands.proofs.WellFormed.{WellFormed, edge_last, mark_last}

-- one segment more: at most 8 bytes for each of its d deltas
mark_turn : (d w from to at end k : ℕ) → d ≡ to - from - 1 → from + 2 ≤ to → w ≤ 8 → at + d * w ≡ end → at + 8 * k ≤ 8 * from
    → end + 8 * suc k ≤ 8 * to
mark_turn d w from to at end k e s h q r = let l = mul-le-mul_left d h in omega arith

module _ (x : Index) (w : WellFormed x) where
  -- the counts rule holds
  pub counts_hold_lem : counts_hold x ≡ true
  counts_hold_lem = facts_counts x w.counts

  -- each segment has a position
  pub edge_step : (k : ℕ) → k < segments_of x → edge x k < edge x (k + 1)
  edge_step k h =
      let c = w.counts in
      by_less k (widths_of x)
      (λ l. let s = (w.whole k l).some in omega arith)
      (λ l. let b = (w.bare k l h).0 in let top = edge_last x (k + 1) (omega arith) in omega arith)

  -- edges never fall
  pub edge_mono : (i j : ℕ) → i ≤ j → j ≤ segments_of x → edge x i ≤ edge x j
  edge_mono = rises (edge x) (segments_of x) (λ k h. let s = edge_step k h in omega arith)

  -- and end at length
  pub edge_most : (k : ℕ) → k ≤ segments_of x → edge x k ≤ length_of x
  edge_most k h = let m = edge_mono k (segments_of x) h (omega arith) in let top = edge_last x (segments_of x) (omega arith) in omega arith

  -- bases never fall
  pub base_mono : (i j : ℕ) → i ≤ j → j < segments_of x → base x i ≤ base x j
  base_mono i j l h = rises (base x) (last_of x) (λ k g. let a = w.apart k (omega arith) in omega arith) i j l (omega arith)

  -- a later base is at least 256^width above
  pub base_above : (i j : ℕ) → i < j → j < segments_of x → base x i + 256 ^ width x i ≤ base x j
  base_above i j l h = let a = w.apart i (omega arith) in let m = base_mono (i + 1) j (omega arith) h in omega arith

  -- k segments with a width have at least 2 x k values
  edge_least : (k : ℕ) → k ≤ widths_of x → 2 * k ≤ edge x k
  edge_least zero h = omega arith
  edge_least (suc k) h =
      let r = edge_least k (omega arith) in
      let s : edge x k + 2 ≤ edge x (suc k) = rw add-one at (w.whole k h).some in
      omega arith

  -- and at most 8 bytes for each that is no base
  mark_most : (k : ℕ) → k ≤ widths_of x → mark x k + 8 * k ≤ 8 * edge x k
  mark_most zero h = let z = w.zero_mark in omega arith
  mark_most (suc k) h =
      let r = mark_most k (omega arith) in
      let g = w.whole k h in
      rw (add-one k) at (mark_turn _ (width x k) (edge x k) (edge x (k + 1)) (mark x k) (mark x (k + 1)) k refl g.some g.most g.ends r)

  -- the end of the segments with a width: the base-only one, if there is one, stands behind it
  widths_end : (edge x (widths_of x) + (segments_of x - widths_of x) ≡ length_of x) × (mark x (widths_of x) ≡ used_of x)
  widths_end =
      let c = w.counts in
      by_less (widths_of x) (segments_of x)
      (λ l. let b = w.bare (widths_of x) (omega arith) l in let b0 = b.0 in (omega arith, b.1))
      (λ l. let e = edge_last x (widths_of x) l in (omega arith, mark_last x (widths_of x) l))

  -- two values or more for each segment with a width, one for the other
  pub length_least : segments_of x + widths_of x ≤ length_of x
  length_least = let c = w.counts in let l = edge_least (widths_of x) (omega arith) in let e = widths_end.0 in omega arith

  -- at most 8 bytes for each value that is no base
  pub used_most : used_of x + 8 * segments_of x ≤ 8 * length_of x
  used_most =
      let c = w.counts in
      let l = mark_most (widths_of x) (omega arith) in
      let e = widths_end in let e0 = e.0 in let e1 = e.1 in
      omega arith

  -- segments <= (length + 1) / 2
  pub segments_half : segments_of x ≤ (length_of x + 1) / 2
  segments_half = let c = w.counts in let l = length_least in omega arith

  -- k segments further on, the base is at least k x 256^m above the first
  base_least : (k : ℕ) → k < segments_of x → base x 0 + k * 256 ^ minimum_of x ≤ base x k
  base_least zero h = omega arith
  base_least (suc k) h =
      let c = w.counts in
      let r = base_least k (omega arith) in
      let a : base x k + 256 ^ width x k ≤ base x (suc k) = rw add-one at (w.apart k (omega arith)) in
      let p = pow-le-pow_right {n = 256} (lit< tt) (w.whole k (omega arith)).least in
      rw (suc-mul k (256 ^ minimum_of x)) (omega arith)

  -- the last base is not below the first
  pub last_above : 1 ≤ length_of x → base x 0 ≤ base x (last_of x)
  last_above h = let c = w.counts in base_mono 0 (last_of x) (omega arith) (omega arith)

  -- segments <= 1 + (last base - first base) / 256^m
  pub segments_spread : 1 ≤ length_of x → segments_of x ≤ 1 + (base x (last_of x) - base x 0) / 256 ^ minimum_of x
  segments_spread h =
      let c = w.counts in
      let l = base_least (last_of x) (omega arith) in
      let d = (le-div_iff_mul-le {x = last_of x} {y = base x (last_of x) - base x 0} (one-le-pow (minimum_of x) 256 (lit< tt))).1 (omega arith) in
      omega arith
