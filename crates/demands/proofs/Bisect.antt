-- On a well-formed index bisect_left is a value; where no segment falls it cuts the values at v, since a segment's values are below the next base.
use Prim.Native.Nat.{ℕ, zero, suc, ◌+◌, ◌-◌, ◌*◌, ◌/◌, ◌^◌, ◌≤◌, ◌<◌}
use mathlib.Core.Bool.{Bool, false}
use mathlib.Core.List.{List, [], ◌∷◌}
use mathlib.Core.Path.{◌≡◌, sym, ap, ◌∙◌}
use native.Mathlib.Omega.{arith}
use native.Mathlib.Nat.{mul-div_cancel, one-le-pow}
use lib.Dec.{leb, ltb, eqb, lit<}
use lib.ListN.{length, get_or}
use borrow.Author.Tests.{ltb-true, ltb-false, lt-ltb, le-ltb, lt-leb, eqb-true, eqb-false}
use Rattle.rules.specs.Words.{value}
use Rattle.rules.specs.Record.{Index, length_of, segments_of, widths_of, used_of, start, base, width, edge, mark}
use Rattle.rules.specs.Push.{delta_at}
use Rattle.rules.specs.Reading.{halving, delta_below, delta_search, bisect_in, bases_up_to, bisect_rule}
use Rattle.rules.specs.Audit.{deltas}
use Rattle.rules.specs.Run.{how_many, NeverFalls}
use Rattle.laws.proofs.Tests.{by_test, taken}
use Rattle.laws.proofs.Halving.{Splits, Falls, halving_splits}
use Rattle.laws.proofs.Bytes.{delta_at_below, delta_room}
use Rattle.demands.proofs.Compare.{by_order}
use Rattle.demands.proofs.WellFormed.{WellFormed, edge_at, edge_last, mark_at}
use Rattle.demands.proofs.Bounds.{counts_hold_lem, edge_step, edge_mono, edge_most, base_mono, base_above}
use Rattle.demands.proofs.Holds.{item_of, item_least, Holds, Bytes}
use Rattle.demands.proofs.Search.{upto_within, upto_last, upto_next}
use Rattle.demands.proofs.Get.{get_at, get_kept}
use Rattle.demands.proofs.Run.{Keeps}

-- the values of segment s never fall
abbrev Sorted : Index → ℕ → Type 0
Sorted x s = (i j : ℕ) → i ≤ j → edge x s + j < edge x (s + 1) → item_of x s i ≤ item_of x s j

-- in segment s, the values before position a are below v and the others are not
record Place (x : Index) (s v a : ℕ) : Type 0 where
  from : edge x s ≤ a
  to : a ≤ edge x (s + 1)
  below : (i : ℕ) → edge x s + i < a → item_of x s i < v
  above : (i : ℕ) → a ≤ edge x s + i → edge x s + i < edge x (s + 1) → v ≤ item_of x s i

-- among all that the index holds, the values before position a are below v and the others are not
record Cut (x : Index) (v a : ℕ) : Type 0 where
  within : a ≤ length_of x
  below : (p u : ℕ) → Holds x p u → p < a → u < v
  above : (p u : ℕ) → Holds x p u → a ≤ p → v ≤ u

-- how many deltas lie between two marks
deltas_between : (at end d w : ℕ) → 0 < w → at + d * w ≡ end → (end - at) / w ≡ d
deltas_between at end d w p e = let q : end - at ≡ d * w = omega arith in rw q (mul-div_cancel d p)

-- the place in a segment whose base is below v: behind the base, if that is all; otherwise where the halving over its deltas splits them
module _ (x : Index) (w : WellFormed x) (s v : ℕ) (h : s < segments_of x) (low : base x s < v) where
  -- behind the base, where it is all
  place_bare : widths_of x ≤ s → Place x s v (edge x s + 1)
  place_bare l =
      let c = w.counts in
      let b = (w.bare s l h).0 in
      let top = edge_last x (s + 1) (omega arith) in
      record {
        from = omega arith;
        to = omega arith;
        below = λ i g. let z : i ≡ 0 = omega arith in rw z low;
        above = λ i g k. absurd (omega arith);
      }

  -- the test of the halving over deltas
  abbrev test : ℕ → Bool
  test = delta_below x.bytes (mark x s) (width x s) (v - base x s)

  -- delta number i
  abbrev delta : ℕ → ℕ
  delta i = delta_at x.bytes (mark x s + i * width x s) (width x s)

  -- where the segment never falls, the test holds and then fails
  falls : Sorted x s → Falls test (deltas x s)
  falls sorted i j l k t =
      let r = sorted (suc i) (suc j) (omega arith) (omega arith) in
      let d = ltb-true (delta j) (v - base x s) t in
      lt-ltb (delta i) (v - base x s) (omega arith)

  -- the values before the split are below v
  place_below : (a : ℕ) → Splits test (deltas x s) a → (i : ℕ) → edge x s + i < edge x s + 1 + a → item_of x s i < v
  place_below a p zero g = low
  place_below a p (suc i) g = let d = ltb-true (delta i) (v - base x s) (p.before i (omega arith)) in omega arith

  -- those from it on are not
  place_above : (a : ℕ) → Splits test (deltas x s) a → (i : ℕ) → edge x s + 1 + a ≤ edge x s + i → edge x s + i < edge x (s + 1) → v ≤ item_of x s i
  place_above a p zero g k = absurd (omega arith)
  place_above a p (suc i) g k = let d = ltb-false (delta i) (v - base x s) (p.after i (omega arith) (omega arith)) in omega arith

  -- so the split is the place
  place_whole : (a : ℕ) → Splits test (deltas x s) a → Place x s v (edge x s + 1 + a)
  place_whole a p =
      let step = edge_step x w s h in
      let q = p.within in
      record { from = omega arith; to = omega arith; below = place_below a p; above = place_above a p }

module _ (x : Index) (w : WellFormed x) where
  -- the search in a segment whose base is at most v
  bisect_in_lem : (s v : ℕ) → s < segments_of x → base x s ≤ v → (a : ℕ) × (bisect_in x s v ≡ value a) × (Sorted x s → Place x s v a)
  unfolding bisect_in delta_search
  bisect_in_lem s v h l =
      let c = w.counts in
      let step = edge_step x w s h in
      let top = edge_most x w (s + 1) (omega arith) in
      let e = edge_at x s h in
      let t1 : leb (length_of x) (start x s) ≡ false = lt-leb (length_of x) (start x s) (omega arith) in
      by_test (eqb (base x s) v)
      (λ t2.
      let q = eqb-true (base x s) v t2 in (
        edge x s,
        rw (t1, t2) (ap value (sym e)),
        λ sorted. record {
          from = omega arith;
          to = omega arith;
          below = λ i g. absurd (omega arith);
          above = λ i g k. let b = item_least x.bytes (base x s) (mark x s) (width x s) i in omega arith;
        },
      ))
      (λ t2.
      let q = eqb-false (base x s) v t2 in
      let low : base x s < v = omega arith in
      let t3 : ltb v (base x s) ≡ false = le-ltb v (base x s) l in
      by_test (ltb s (widths_of x))
      (λ t4.
      let o = w.whole s (ltb-true s (widths_of x) t4) in
      let least = o.least in
      let ends = o.ends in
      let f = mark_at x s h in
      let n = rw (e, f) at (deltas_between (mark x s) (mark x (s + 1)) (deltas x s) (width x s) (omega arith) ends) in
      let a = (halving (test x w s v h low) (deltas x s)).number in (
        edge x s + 1 + a,
        rw (t1, t2, t3, t4, e, f) (taken _ _ _ (least, (o.most, (omega arith, (o.inside, (rw n (omega arith), tt))))) ∙ rw n),
        λ sorted. place_whole x w s v h low a (halving_splits (test x w s v h low) (deltas x s) (falls x w s v h low sorted)),
      ))
      (λ t4. (
        edge x s + 1,
        rw (t1, t2, t3, t4) (ap (λ (z : ℕ). value (z + 1)) (sym e)),
        λ sorted. place_bare x w s v h low (ltb-false s (widths_of x) t4),
      )))

  -- what stands at a position of segment s
  holds_at : (s p u : ℕ) (k : Holds x p u) → k.seg ≡ s → (edge x s + k.nth ≡ p) × (p < edge x (s + 1)) × (item_of x s k.nth ≡ u)
  holds_at s p u k e = (rw e at k.here, rw e at k.before, rw e at k.is)

  -- a value is not below the bases up to its own
  holds_least : (s p u : ℕ) (k : Holds x p u) → s ≤ k.seg → base x s ≤ u
  holds_least s p u k l =
      let i = item_least x.bytes (base x k.seg) (mark x k.seg) (width x k.seg) k.nth in
      let m = base_mono x w s k.seg l k.inside in
      let q = k.is in
      omega arith

  -- all bases are above v
  cut_none : (v : ℕ) → (0 < segments_of x → v < base x 0) → Cut x v 0
  cut_none v h = record {
    within = omega arith;
    below = λ q u k g. absurd (omega arith);
    above = λ q u k g. let i = k.inside in let n = h (omega arith) in let b = holds_least 0 q u k (omega arith) in omega arith;
  }

  module _ (bytes : Bytes x) where
    -- a value of a segment with a width is less than 256^width above its base
    item_most : (t i : ℕ) → t < widths_of x → edge x t + i < edge x (t + 1) → item_of x t i < base x t + 256 ^ width x t
    item_most t zero h l = let p = one-le-pow (width x t) 256 (lit< tt) in omega arith
    item_most t (suc i) h l =
        let o = w.whole t h in
        let ends = o.ends in
        let inside = o.inside in
        let r = delta_room (deltas x t) (width x t) i (omega arith) in
        let b = delta_at_below x.bytes (used_of x) (width x t) (mark x t + i * width x t) bytes (omega arith) in
        omega arith

    -- segment s is the last whose base is at most v
    cut_place : (s v a : ℕ) → s < segments_of x → base x s ≤ v → (s + 1 < segments_of x → v < base x (s + 1)) → Place x s v a → Cut x v a
    cut_place s v a h l next p =
        let c = w.counts in
        let from = p.from in
        let to = p.to in
        let top = edge_most x w (s + 1) (omega arith) in
        record {
          within = omega arith;
          below = λ q u k g.
              let k0 = k.inside in let k1 = k.here in let k2 = k.before in let k3 = k.is in
              by_order k.seg s
              (λ lt. let b = item_most k.seg k.nth (omega arith) (omega arith) in let d = base_above x w k.seg s lt h in omega arith)
              (λ same. let t = holds_at s q u k same in let t0 = t.0 in let t2 = t.2 in let b = p.below k.nth (omega arith) in omega arith)
              (λ gt. let r = edge_mono x w (s + 1) k.seg (omega arith) (omega arith) in absurd (omega arith));
          above = λ q u k g.
              let k0 = k.inside in let k2 = k.before in
              by_order k.seg s
              (λ lt. let r = edge_mono x w (k.seg + 1) s (omega arith) (omega arith) in absurd (omega arith))
              (λ same. let t = holds_at s q u k same in let t0 = t.0 in let t1 = t.1 in let t2 = t.2 in
              let b = p.above k.nth (omega arith) (omega arith) in omega arith)
              (λ gt. let n = next (omega arith) in let b = holds_least (s + 1) q u k (omega arith) in omega arith);
        }

  -- bisect_left answers a value, and where no segment falls that cuts at v
  bisect_cuts : (v : ℕ) → (a : ℕ) × (bisect_rule x v ≡ value a) × (((s : ℕ) → s < segments_of x → Sorted x s) → Bytes x → Cut x v a)
  unfolding bisect_rule bases_up_to
  bisect_cuts v =
      let c = w.counts in
      let k = bases_up_to x v in
      let top = upto_within x.bases (segments_of x) v in
      let next = upto_next x.bases (segments_of x) v in
      by_test (eqb (length_of x) 0)
      (λ t. let z = eqb-true (length_of x) 0 t in (0, rw (counts_hold_lem x w, t), λ sorted bytes. cut_none v (λ g. absurd (omega arith))))
      (λ t.
      let z = eqb-false (length_of x) 0 t in
      by_test (eqb k 0)
      (λ u.
      let k0 = eqb-true k 0 u in
      (0, rw (counts_hold_lem x w, t, u), λ sorted bytes. cut_none v (λ g. let n = next (omega arith) in let b = ap (base x) k0 in omega arith)))
      (λ u.
      let k1 = eqb-false k 0 u in
      let s = k - 1 in
      let in-s : s < segments_of x = omega arith in
      let l = upto_last x.bases (segments_of x) v (omega arith) in
      let r = bisect_in_lem s v in-s l in (
        r.0,
        rw (counts_hold_lem x w, t, u) r.1,
        λ sorted bytes. cut_place bytes s v r.0 in-s l
            (λ g. let back : s + 1 ≡ k = omega arith in let n = next (omega arith) in let b = ap (base x) back in omega arith)
            (r.2 (sorted s in-s)),
      )))

  -- bisect_left answers a value
  pub bisect_value : (v : ℕ) → (a : ℕ) × (bisect_rule x v ≡ value a)
  bisect_value v = let r = bisect_cuts v in (r.0, r.1)

-- how many of a list that a number cuts
cut_counts : (vs : List ℕ) (v a : ℕ) → a ≤ length vs → ((p : ℕ) → p < a → get_or vs p 0 < v) → ((p : ℕ) → a ≤ p → p < length vs → v ≤ get_or vs p 0)
    → how_many v vs ≡ a
unfolding how_many
cut_counts [] v a h b g = omega arith
cut_counts (u ∷ us) v zero h b g =
    let r = cut_counts us v 0 (omega arith) (λ p l. absurd (omega arith)) (λ p l k. g (suc p) (omega arith) (omega arith)) in
    rw (le-ltb u v (g 0 (omega arith) (omega arith))) (omega arith)
cut_counts (u ∷ us) v (suc a) h b g =
    let r = cut_counts us v a (omega arith) (λ p l. b (suc p) (omega arith)) (λ p l k. g (suc p) (omega arith) (omega arith)) in
    rw (lt-ltb u v (b 0 (omega arith))) (omega arith)

module _ (x : Index) (vs : List ℕ) (k : Keeps x vs) where
  -- a segment's values are those that the index keeps
  item_is : (s i : ℕ) → s < segments_of x → edge x s + i < edge x (s + 1) → item_of x s i ≡ get_or vs (edge x s + i) 0
  item_is s i h l =
      let w = k.well in
      let top = edge_most x w (s + 1) (omega arith) in
      let m = k.many in
      let e1 = get_at x w s i h l in
      let e2 = get_kept x vs k (edge x s + i) (omega arith) in
      cc

  -- where the values never fall, no segment does
  sorted : NeverFalls vs → (s : ℕ) → s < segments_of x → Sorted x s
  sorted n s h i j l g =
      let top = edge_most x k.well (s + 1) (omega arith) in
      let m = k.many in
      rw (item_is s i h (omega arith), item_is s j h g) (n (edge x s + i) (edge x s + j) (omega arith) (omega arith))

  -- on values that never fall, bisect_left is how many are below v
  pub bisect_counts : NeverFalls vs → (v : ℕ) → bisect_rule x v ≡ value (how_many v vs)
  bisect_counts n v =
      let r = bisect_cuts x k.well v in
      let cut = r.2 (sorted n) k.bytes in
      let top = cut.within in
      let m = k.many in
      let e = cut_counts vs v r.0 (omega arith)
      (λ p l. cut.below p (get_or vs p 0) (k.holds p (omega arith)) l)
      (λ p l g. cut.above p (get_or vs p 0) (k.holds p (omega arith)) l) in
      rw e r.1
