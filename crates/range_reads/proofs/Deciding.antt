-- Which reads of a range give a value: in a segment that is sure, in the segment that a search found, and over the whole range.
use Prim.Native.Nat.{ℕ, zero, suc, ◌+◌, ◌-◌, ◌*◌, ◌^◌, ◌≤◌, ◌<◌}
use mathlib.Core.Bool.{true, false}
use mathlib.Core.List.{List}
use mathlib.Core.Path.{◌≡◌, refl, ap, ◌∙◌}
use native.Mathlib.Omega.{arith}
use Rattle.std.specs.List.{between}
use Rattle.std.proofs.lemmas.List.Edits.{length-between, get_or-between}
use lib.Dec.{ltb, eqb}
use lib.ListN.{length, take}
use borrow.Author.Tests.{ltb-true, ltb-false, eqb-true, eqb-false, leb-true, lt-ltb, le-ltb, ne_eqb}
use Rattle.rules.specs.Words.{Answer, value, refused, Facts}
use Rattle.rules.specs.Record.{Index, minimum_of, length_of, segments_of, widths_of, used_of, start, base, offset, width}
use Rattle.rules.specs.Push.{delta_at}
use Rattle.rules.specs.Reading.{Halved, halving, at_most, damaged, delta_read, read_in, starts_up_to, get_rule, before, reads}
use Rattle.laws.specs.Orders.{orders_of}
use Rattle.laws.proofs.Tests.{by_test, false_not_true, taken}
use Rattle.laws.proofs.Counts.{facts_counts}
use Rattle.laws.proofs.Halving.{halving_edge}
use Rattle.laws.proofs.InUse.{halving_in_use}
use Rattle.index_stream.specs.declared.Found.{Found}
use Rattle.index_stream.specs.Searches.{Finds}
use Rattle.range_reads.specs.Values.{is_value, Values, Sure, Run}

-- what makes the reads of segment k sure up to `until`, whatever its deltas are: a width w within m to 8, and a run of them in the bytes in use
pub record Frame (x : Index) (k until w : ℕ) : Type 0 where
  pub has : ltb k (widths_of x) ≡ true
  pub is : width x k ≡ w
  pub least : minimum_of x ≤ w
  pub most : w ≤ 8
  pub from : offset x k ≤ used_of x
  pub within : used_of x ≤ length x.bytes
  pub run : Run (between (offset x k) (used_of x) x.bytes) (base x k) w (until - start x k - 1)

-- a delta in the bytes from one up to another is one in all of them
pub delta_between : (bytes : List ℕ) (from to at w : ℕ) → from + at + w ≤ to → delta_at (between from to bytes) at w ≡ delta_at bytes (from + at) w
unfolding delta_at
delta_between bytes from to at zero h = refl
delta_between bytes from to at (suc w) h =
    let e : from + suc at ≡ suc (from + at) = omega arith in
    rw (get_or-between bytes from to at 0 (omega arith), delta_between bytes from to (suc at) w (omega arith), e)

-- a delta whose tests hold is a value
delta_sure : (m used : ℕ) (bytes : List ℕ) (base offset i w : ℕ) → m ≤ w → w ≤ 8 → offset + i * w + w ≤ used → base + delta_at bytes (offset + i * w) w < 2 ^ 64
    → is_value (delta_read m used bytes base offset i w) ≡ true
unfolding delta_read
delta_sure m used bytes base offset i w a b c d = ap is_value (taken _ _ _ (a, (b, (c, (d, tt)))))

-- the reads of a framed segment are values
frame_reads : (x : Index) (k until w q : ℕ) → Frame x k until w → start x k ≤ q → q < until → is_value (read_in x k q) ≡ true
unfolding read_in
frame_reads x k until w q f h l =
    by_test (eqb q (start x k))
    (λ t. rw (le-ltb q (start x k) h, t, read_in))
    (λ t.
    let i = q - start x k - 1 in
    let n = eqb-false q (start x k) t in
    let r = f.run i (omega arith) in
    let o = f.from in
    let u = length-between x.bytes (offset x k) (used_of x) f.within in
    let d = delta_between x.bytes (offset x k) (used_of x) (i * w) w (omega arith) in
    rw (le-ltb q (start x k) h, t, f.has, f.is, read_in)
    (delta_sure (minimum_of x) (used_of x) x.bytes (base x k) (offset x k) i w f.least f.most (omega arith) (omega arith)))

-- no position is sure yet
pub sure_none : (x : Index) (k p until : ℕ) → p < until → Sure x k p until p
sure_none x k p until h = record { from = omega arith; to = omega arith; reads = λ q l u. absurd (omega arith) }

-- all of a framed segment are sure
pub sure_all : (x : Index) (k p until w : ℕ) → start x k ≤ p → p < until → Frame x k until w → Sure x k p until until
sure_all x k p until w h l f = record { from = omega arith; to = omega arith; reads = λ q g u. frame_reads x k until w q f (omega arith) u }

-- what a search from p on tells where it found some: segment k is there and begins at most at p, and each get up to `until` reads in it
pub record Segment (x : Index) (p until k : ℕ) : Type 0 where
  pub there : k < segments_of x
  pub begins : start x k ≤ p
  pub gets : (q : ℕ) → p ≤ q → q < until → get_rule x q ≡ read_in x k q

module _ (x : Index) (ok : Facts (orders_of x)) (starts : List ℕ) (used : starts ≡ take (segments_of x) x.starts) where
  -- a search over the starts in use is the rule's
  up_to : (p : ℕ) → (halving (at_most starts p) (length starts)).number ≡ starts_up_to x p
  unfolding starts_up_to
  up_to p = rw used (ap (λ (h : Halved). h.number) (halving_in_use x.starts (segments_of x) (omega arith) p))

  module _ (p limit : ℕ) (r : Found) (f : Finds starts (length starts) p limit r) (long : limit ≤ length_of x) where
    found : (q : ℕ) → p ≤ q → q < r.until → r.number ≡ starts_up_to x q
    found q l h = f.stays q l h ∙ up_to q

    -- a search that found none
    pub none_found : r.number ≡ 0 → get_rule x p ≡ damaged
    unfolding get_rule
    none_found z = rw (facts_counts x ok, lt-ltb p (length_of x) (omega (arith, f.after, f.within)), ← found p (omega arith) f.after, z, get_rule)

    -- a search that found some
    pub some_found : (r.number ≡ 0 → ⊥) → Segment x p r.until (r.number - 1)
    unfolding get_rule starts_up_to
    some_found z =
        let e = found p (omega arith) f.after in
        let g = halving_edge (at_most x.starts p) (segments_of x) in
        let t = g.to in
        record {
          there = omega (arith, z);
          begins = rw e (leb-true (start x (starts_up_to x p - 1)) p (g.last (omega (arith, z))));
          gets = λ q l h. rw (facts_counts x ok, lt-ltb q (length_of x) (omega (arith, f.within)), ← found q l h, ne_eqb r.number 0 z, get_rule);
        }

-- values up to p, and sure from there to r in the segment that a search found
pub values_on : (x : Index) (p until k : ℕ) → Segment x p until k → (a r : ℕ) → Sure x k p until r → Values x a p → Values x a r
values_on x p until k s a r sure good q l u =
    by_test (ltb q p)
    (λ t. good q l (ltb-true q p t))
    (λ t. let g = ltb-false q p t in let to = sure.to in ap is_value (s.gets q g (omega arith)) ∙ sure.reads q g u)

-- values up to p, and at p
pub values_more : (x : Index) (a p : ℕ) → Values x a p → is_value (get_rule x p) ≡ true → Values x a (p + 1)
values_more x a p good here q l u =
    by_test (ltb q p)
    (λ t. good q l (ltb-true q p t))
    (λ t. let g = ltb-false q p t in let e : q ≡ p = omega arith in rw e here)

-- a value in front of several is a value where both are
before_good : (g : Answer ℕ) (s : Answer (List ℕ)) → is_value g ≡ true → is_value s ≡ true → is_value (before g s) ≡ true
before_good (value v) (value vs) e f = refl
before_good (value v) (refused r) e f = f
before_good (refused r) s e f = e

-- and none where the first is none
before_bad : (g : Answer ℕ) (s : Answer (List ℕ)) → is_value g ≡ false → is_value (before g s) ≡ false
before_bad (value v) s e = false_not_true true refl e
before_bad (refused r) s e = refl

-- or the others are none
before_rest : (g : Answer ℕ) (s : Answer (List ℕ)) → is_value s ≡ false → is_value (before g s) ≡ false
before_rest (value v) (value vs) e = e
before_rest (value v) (refused r) e = refl
before_rest (refused r) s e = refl

-- a range of values is a value
pub reads_good : (x : Index) (n a : ℕ) → Values x a (a + n) → is_value (reads x a n) ≡ true
unfolding reads
reads_good x zero a h = refl
reads_good x (suc n) a h =
    before_good (get_rule x a) (reads x (suc a) n) (h a (omega arith) (omega arith)) (reads_good x n (suc a) (λ q l u. h q (omega arith) (omega arith)))

-- a range with a read that is no value is none
pub reads_bad : (x : Index) (n a q : ℕ) → a ≤ q → q < a + n → is_value (get_rule x q) ≡ false → is_value (reads x a n) ≡ false
unfolding reads
reads_bad x zero a q h l e = absurd (omega arith)
reads_bad x (suc n) a q h l e =
    by_test (eqb q a)
    (λ t. let z = eqb-true q a t in before_bad (get_rule x a) (reads x (suc a) n) (rw z at e))
    (λ t. let z = eqb-false q a t in before_rest (get_rule x a) (reads x (suc a) n) (reads_bad x n (suc a) q (omega arith) (omega arith) e))
