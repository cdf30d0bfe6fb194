-- A new segment: no edge or mark up to the last moves, since the new start is the old length and the new offset the old used.
use Prim.Native.Nat.{ℕ, ◌+◌, ◌^◌, ◌≤◌, ◌<◌}
use mathlib.Core.List.{List}
use mathlib.Core.Path.{◌≡◌, refl, ◌∙◌}
use native.Mathlib.Omega.{arith}
use lib.Dec.{ltb}
use lib.ListN.{length, get_or, set, length-set}
use lib.Seq.{get_or-set_same, get_or-set_other}
use borrow.Author.Tests.{lt-ltb, le-ltb}
use Rattle.rules.specs.Words.{when, Facts}
use Rattle.rules.specs.Record.{Index, length_of, segments_of, widths_of, used_of, base, width, edge, mark, room_of}
use Rattle.rules.specs.Push.{segment_room, with_segment}
use Rattle.laws.specs.Orders.{orders_of}
use Rattle.demands.proofs.Compare.{by_less}
use Rattle.demands.proofs.WellFormed.{WholeAt, WellFormed, edge_last, mark_last}
use Rattle.demands.proofs.Holds.{Holds, OneMore, whole_kept}

-- a table whose entry after the last is e, with e stored there
entry_kept : (t : List ℕ) (n e more k : ℕ) → n < length t → k ≤ n → when (ltb k (n + 1)) (get_or (set t n e) k 0) more ≡ when (ltb k n) (get_or t k 0) e
entry_kept t n e more k r h =
    by_less k n
    (λ l. rw (lt-ltb k (n + 1) (omega arith), lt-ltb k n l) (get_or-set_other t n k e 0 (λ q. omega arith)))
    (λ l. let q : k ≡ n = omega arith in rw (q, lt-ltb n (n + 1) (omega arith), le-ltb n n (omega arith)) (get_or-set_same t n e 0 r))

-- v is at least 256^width above the last base, if there is one
abbrev pub Gap : Index → ℕ → Type 0
Gap x v = (k : ℕ) → k + 1 ≡ segments_of x → base x k + 256 ^ width x k ≤ v

module _ (x : Index) (w : WellFormed x) (v : ℕ) (all : widths_of x ≡ segments_of x) (room : Facts (segment_room x.state (room_of x)))
    (gap : Gap x v) where
  -- the index after the push
  abbrev y : Index
  y = with_segment x v

  -- no edge up to the last moves
  edge_kept : (k : ℕ) → k ≤ segments_of x → edge y k ≡ edge x k
  edge_kept k h = entry_kept x.starts (segments_of x) (length_of x) (length_of x + 1) k (omega arith) h

  -- nor mark
  mark_kept : (k : ℕ) → k ≤ segments_of x → mark y k ≡ mark x k
  mark_kept k h = entry_kept x.offsets (segments_of x) (used_of x) (used_of x) k (omega arith) h

  -- nor base
  base_kept : (k : ℕ) → k < segments_of x → base y k ≡ base x k
  base_kept k h = get_or-set_other x.bases (segments_of x) k v 0 (λ e. omega arith)

  -- the new base is v
  base_new : base y (segments_of x) ≡ v
  base_new = get_or-set_same x.bases (segments_of x) v 0 (omega arith)

  -- the counts rule still holds
  counts_new : Facts (orders_of y)
  counts_new =
      let c = w.counts in
      let e1 = length-set x.starts (segments_of x) (length_of x) in
      let e2 = length-set x.bases (segments_of x) v in
      let e3 = length-set x.offsets (segments_of x) (used_of x) in
      omega arith

  -- the segments before stay whole
  whole_new : (k : ℕ) → k < widths_of x → WholeAt y k
  whole_new k h =
      whole_kept (w.whole k h) (base_kept k (omega arith)) refl (edge_kept k (omega arith)) (edge_kept (k + 1) (omega arith))
      (mark_kept k (omega arith)) (mark_kept (k + 1) (omega arith)) (omega arith) (λ i l. refl)

  -- and the new base is far enough from theirs
  apart_new : (k : ℕ) → k + 1 < segments_of x + 1 → base y k + 256 ^ width x k ≤ base y (k + 1)
  apart_new k h =
      by_less (k + 1) (segments_of x)
      (λ l. rw (base_kept k (omega arith), base_kept (k + 1) l) (w.apart k l))
      (λ l.
      let e : k + 1 ≡ segments_of x = omega arith in
      let b : base y (k + 1) ≡ v = rw e base_new in
      rw (base_kept k (omega arith), b) (gap k e))

  -- the audit still passes
  segment_well : WellFormed y
  segment_well = record {
    counts = counts_new;
    zero_edge = edge_kept 0 (omega arith) ∙ w.zero_edge;
    zero_mark = mark_kept 0 (omega arith) ∙ w.zero_mark;
    whole = whole_new;
    bare = λ k l h.
        let e = edge_kept k (omega arith) in
        let f = edge_last x k (omega arith) in
        (omega arith, mark_kept k (omega arith) ∙ mark_last x k (omega arith));
    apart = apart_new;
  }

  -- the index holds what it held
  segment_old : (p u : ℕ) → Holds x p u → Holds y p u
  segment_old p u h =
      let i = h.inside in
      record {
        seg = h.seg;
        nth = h.nth;
        inside = omega arith;
        here = rw (edge_kept h.seg (omega arith)) h.here;
        before = rw (edge_kept (h.seg + 1) (omega arith)) h.before;
        is = rw (base_kept h.seg i, mark_kept h.seg (omega arith)) h.is;
      }

  -- and v at the end
  segment_new : Holds y (length_of x) v
  segment_new = record {
    seg = segments_of x;
    nth = 0;
    inside = omega arith;
    here = let e = edge_kept (segments_of x) (omega arith) in let f = edge_last x (segments_of x) (omega arith) in omega arith;
    before = let e = edge_last y (segments_of x + 1) (omega arith) in omega arith;
    is = base_new;
  }

  -- a new segment with base v is one value more
  pub segment_more : OneMore x y v
  segment_more = record { well = segment_well; longer = refl; bytes = λ b. b; old = segment_old; new = segment_new }
