-- One delta more in the last segment, its first or a further one: only the last edge and the last mark move.
use Prim.Native.Nat.{ℕ, zero, suc, ◌+◌, ◌-◌, ◌*◌, ◌^◌, ◌≤◌, ◌<◌}
use mathlib.Core.List.{List}
use mathlib.Core.Path.{◌≡◌, refl, sym, ◌∙◌}
use native.Mathlib.Omega.{arith}
use native.Mathlib.Nat.{zero-mul}
use lib.ListN.{length, get_or}
use lib.Seq.{sets, length-sets}
use Rattle.rules.specs.Words.{Facts}
use Rattle.rules.specs.Record.{Index, index, minimum_of, length_of, segments_of, widths_of, used_of, last_of, base, width, edge, mark, room_of}
use Rattle.rules.specs.Push.{delta_bytes, delta_at, data_room, grown}
use Rattle.rules.specs.Audit.{deltas}
use Rattle.laws.specs.Orders.{orders_of}
use Rattle.laws.proofs.Bytes.{delta_same, sets_before, delta_stored, bytes_stored, delta_room}
use Rattle.demands.proofs.Compare.{by_less}
use Rattle.demands.proofs.WellFormed.{WholeAt, WellFormed, edge_at, edge_last, mark_at, mark_last}
use Rattle.demands.proofs.Holds.{item, item_of, Holds, OneMore, whole_kept}

-- the bytes of d + 1 deltas
one_more : (at d wide used from n : ℕ) → d ≡ n - from - 1 → from < n → at + d * wide ≡ used → at + (n + 1 - from - 1) * wide ≡ used + wide
one_more at d wide used from n e l h = let q : n + 1 - from - 1 ≡ d + 1 = omega arith in rw q (omega arith)

-- a delta that a push of v may store: how far v is above the last base, in `wide` bytes, with room for them
pub record Storable (x : Index) (v d wide : ℕ) : Type 0 where
  pub some : 1 ≤ segments_of x
  pub sum : base x (last_of x) + d ≡ v
  pub least : minimum_of x ≤ wide
  pub most : wide ≤ 8
  pub holds : v < 2 ^ 64 → d < 256 ^ wide
  pub room : Facts (data_room x.state (room_of x) wide)

-- how many deltas the last segment has
abbrev had : Index → ℕ
had x = length_of x - edge x (last_of x) - 1

-- they are `wide` bytes each, if there are any, and end at used
pub record Last (x : Index) (wide : ℕ) : Type 0 where
  pub below : edge x (last_of x) < length_of x
  pub full : mark x (last_of x) + had x * wide ≡ used_of x
  pub same : 0 < had x → width x (last_of x) ≡ wide
  pub fits : (i : ℕ) → i < had x → base x (last_of x) + delta_at x.bytes (mark x (last_of x) + i * wide) wide < 2 ^ 64

module _ (x : Index) (w : WellFormed x) where
  -- a last segment without a width has none
  pub last_bare : widths_of x + 1 ≡ segments_of x → (wide : ℕ) → Last x wide
  last_bare e wide =
      let b = w.bare (last_of x) (omega arith) (omega arith) in
      let low = b.0 in
      let end = b.1 in
      let none : had x ≡ 0 = omega arith in
      record { below = omega arith; full = rw (none, zero-mul wide) (omega arith); same = λ h. absurd (omega arith); fits = λ i h. absurd (omega arith) }

  -- one with a width has them of that width
  pub last_whole : widths_of x ≡ segments_of x → 1 ≤ segments_of x → Last x (width x (last_of x))
  last_whole e h =
      let k = last_of x in
      let o = w.whole k (omega arith) in
      let top : edge x (k + 1) ≡ length_of x = edge_last x (k + 1) (omega arith) in
      let end : mark x (k + 1) ≡ used_of x = mark_last x (k + 1) (omega arith) in
      let two = o.some in
      record { below = omega arith; full = rw (top, end) at o.ends; same = λ h. refl; fits = rw top at o.fits }

-- after the push there are n widths: those before the last segment's as they were, and `wide`
module _ (x : Index) (w : WellFormed x) (v d wide n : ℕ) (ws : List ℕ) (small : v < 2 ^ 64) (s : Storable x v d wide) (o : Last x wide)
    (all : n ≡ segments_of x) (long : n ≤ length ws) (same : (j : ℕ) → j < last_of x → get_or ws j 0 ≡ width x j) (here : get_or ws (last_of x) 0 ≡ wide) where
  -- the last segment
  abbrev k : ℕ
  k = last_of x

  -- the data bytes after the push
  abbrev ds : List ℕ
  ds = sets x.bytes (used_of x) (delta_bytes wide d)

  -- the index after the push
  abbrev y : Index
  y = index (grown x.state (segments_of x) n (used_of x + wide)) x.starts x.bases x.offsets ws ds

  -- no edge up to the last segment moves
  edge_kept : (j : ℕ) → j ≤ k → edge y j ≡ edge x j
  edge_kept j h = edge_at y j (omega arith) ∙ sym (edge_at x j (omega arith))

  -- nor mark
  mark_kept : (j : ℕ) → j ≤ k → mark y j ≡ mark x j
  mark_kept j h = mark_at y j (omega arith) ∙ sym (mark_at x j (omega arith))

  -- the edge after it moves by one
  edge_end : edge y (k + 1) ≡ length_of x + 1
  edge_end = edge_last y (k + 1) (omega arith)

  -- the mark after it by the width
  mark_end : mark y (k + 1) ≡ used_of x + wide
  mark_end = mark_last y (k + 1) (omega arith)

  -- the used bytes stay
  bytes_kept : (i : ℕ) → i < used_of x → get_or ds i 0 ≡ get_or x.bytes i 0
  bytes_kept i h = sets_before (delta_bytes wide d) x.bytes (used_of x) i h

  -- the bytes stored are the delta
  stored : delta_at ds (used_of x) wide ≡ d
  stored = delta_stored wide d (used_of x) x.bytes s.room.0 (s.holds small)

  -- the counts rule still holds
  counts_new : Facts (orders_of y)
  counts_new =
      let c = w.counts in
      let r = s.room in
      let e = length-sets x.bytes (used_of x) (delta_bytes wide d) in
      omega arith

  -- the last segment's deltas stand where they stood
  delta_there : (i : ℕ) → i < had x → delta_at ds (mark x k + i * wide) wide ≡ delta_at x.bytes (mark x k + i * wide) wide
  delta_there i h =
      let r = delta_room (had x) wide i h in
      let f = o.full in
      delta_same ds x.bytes (used_of x) (mark x k + i * wide) wide bytes_kept (omega arith)

  -- every base + delta fits: those before, and v
  fits_new : (i : ℕ) → i < length_of x + 1 - edge x k - 1 → base x k + delta_at ds (mark x k + i * wide) wide < 2 ^ 64
  fits_new i h =
      let b = o.below in
      by_less i (had x)
      (λ l. rw (delta_there i l) (o.fits i l))
      (λ l. let e : i ≡ had x = omega arith in rw (e, o.full, stored, s.sum) small)

  -- the last segment is whole
  whole_last : WholeAt y k
  whole_last =
      rw (edge_kept k (omega arith), mark_kept k (omega arith), edge_end, mark_end, here)
      (record {
        least = s.least;
        most = s.most;
        some = let b = o.below in omega arith;
        ends = one_more (mark x k) (had x) wide (used_of x) (edge x k) (length_of x) refl o.below o.full;
        inside = omega arith;
        fits = fits_new;
      })

  -- and so are the others
  whole_new : (j : ℕ) → j < n → WholeAt y j
  whole_new j h =
      let c = w.counts in
      by_less j k
      (λ l.
      whole_kept (w.whole j (omega arith)) refl (same j l) (edge_kept j (omega arith)) (edge_kept (j + 1) (omega arith))
      (mark_kept j (omega arith)) (mark_kept (j + 1) (omega arith)) (omega arith) bytes_kept)
      (λ l. let e : j ≡ k = omega arith in rw e whole_last)

  -- the audit still passes
  delta_well : WellFormed y
  delta_well = record {
    counts = counts_new;
    zero_edge = edge_kept 0 (omega arith) ∙ w.zero_edge;
    zero_mark = mark_kept 0 (omega arith) ∙ w.zero_mark;
    whole = whole_new;
    bare = λ j l h. absurd (omega arith);
    apart = λ j h. rw (same j (omega arith)) (w.apart j h);
  }

  -- a segment's values stay
  item_kept : (j i : ℕ) → j ≤ k → edge x j + i < edge x (j + 1) → item ds (base x j) (mark x j) (get_or ws j 0) i ≡ item_of x j i
  item_kept j zero l h = refl
  item_kept j (suc i) l h =
      let c = w.counts in
      let some = s.some in
      by_less j k
      (λ b.
      let g = w.whole j (omega arith) in
      let ends = g.ends in
      let inside = g.inside in
      let r = delta_room (deltas x j) (width x j) i (omega arith) in
      rw (same j b, delta_same ds x.bytes (used_of x) (mark x j + i * width x j) (width x j) bytes_kept (omega arith)))
      (λ b.
      let e : j ≡ k = omega arith in
      let top : edge x (k + 1) ≡ length_of x = edge_last x (k + 1) (omega arith) in
      let h2 : edge x k + suc i < edge x (k + 1) = rw e at h in
      let i-had : i < had x = omega arith in
      rw (e, here, o.same (omega arith), delta_there i i-had))

  -- the index holds what it held
  delta_old : (p u : ℕ) → Holds x p u → Holds y p u
  delta_old p u h =
      let i = h.inside in
      let e = edge_kept h.seg (omega arith) in
      let b = h.before in
      let q = h.here in
      record {
        seg = h.seg;
        nth = h.nth;
        inside = i;
        here = omega arith;
        before = by_less h.seg k
            (λ l. let f = edge_kept (h.seg + 1) (omega arith) in omega arith)
            (λ l. let top = edge_last x (h.seg + 1) (omega arith) in let end = edge_last y (h.seg + 1) (omega arith) in omega arith);
        is = rw (mark_kept h.seg (omega arith)) (item_kept h.seg h.nth (omega arith) (omega arith) ∙ h.is);
      }

  -- and v at the end
  delta_new : Holds y (length_of x) v
  delta_new =
      let some = s.some in
      let b = o.below in
      let e = edge_kept k (omega arith) in
      let f = edge_end in
      record {
        seg = k;
        nth = suc (had x);
        inside = omega arith;
        here = omega arith;
        before = omega arith;
        is = rw (mark_kept k (omega arith), here, o.full, stored) s.sum;
      }

  -- a delta behind the others is one value more
  pub delta_more : OneMore x y v
  delta_more = record {
    well = delta_well;
    longer = refl;
    bytes = bytes_stored wide d (used_of x) x.bytes s.room.0;
    old = delta_old;
    new = delta_new;
  }
