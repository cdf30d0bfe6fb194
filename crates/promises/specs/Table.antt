-- Document 01, "Refusal numbers", as plain facts: each entry point's sentences, in 01's order.
use Rattle.std.specs.Prelude.{ℕ, ◌+◌, ◌-◌, ◌*◌, ◌/◌, ◌^◌, ◌≤◌, ◌<◌, List, [], ◌∷◌, ◌++◌, ◌↔◌, ◌⊎◌, ◌≡◌, length}
use Rattle.rules.specs.Record.{Index, minimum_of, length_of, segments_of, widths_of, used_of, last_of, start, base, offset, width, mark, segment_limit, data_limit}
use Rattle.rules.specs.Push.{need_of, delta_at}
use Rattle.rules.specs.Reading.{starts_up_to, bases_up_to}
use Rattle.promises.specs.Sentences.{Sentence, ◌if◌}

-- a width outside m to 8
abbrev pub Outside : ℕ → ℕ → Type 0
Outside m w = (w < m) ⊎ (8 < w)

-- the counts rule
pub record CountsRule (x : Index) : Type 0 where
  -- m is 1 to 8
  pub minimum : (1 ≤ minimum_of x) × (minimum_of x ≤ 8)
  -- segments is at most 65,535 and at most the length of each u64 table
  pub segments : (segments_of x ≤ segment_limit) × (segments_of x ≤ length x.starts) × (segments_of x ≤ length x.bases) × (segments_of x ≤ length x.offsets)
  -- widths is at most its table's length
  pub widths : widths_of x ≤ length x.widths
  -- used is at most the data length and 4,294,967,295
  pub used : (used_of x ≤ length x.bytes) × (used_of x ≤ data_limit)
  -- segments is 0 exactly when length is 0
  pub empty : (segments_of x ≡ 0) ↔ (length_of x ≡ 0)
  -- and then widths and used are 0
  pub zeros : segments_of x ≡ 0 → (widths_of x ≡ 0) × (used_of x ≡ 0)
  -- otherwise widths is segments or segments - 1
  pub otherwise : (segments_of x ≡ 0 → ⊥) → (widths_of x ≡ segments_of x) ⊎ (widths_of x ≡ segments_of x - 1)
  -- length is at least segments and at most segments + used
  pub total : (segments_of x ≤ length_of x) × (length_of x ≤ segments_of x + used_of x)

-- 9 Counts: the counts rule is broken
abbrev pub counts : Index → Sentence
counts x = 9 if (CountsRule x → ⊥)

-- opening. 11 Minimum: m outside 1 to 8
abbrev pub open_table : ℕ → List Sentence
open_table m = 11 if (Outside 1 m) ∷ []

-- there is a last segment, and it has an entry in widths: the current width
abbrev pub HasWidth : Index → Type 0
HasWidth x = (0 < segments_of x) × (last_of x < widths_of x)

-- there is a last segment, and it has no entry in widths: a width is due
abbrev pub WidthDue : Index → Type 0
WidthDue x = (0 < segments_of x) × (widths_of x ≤ last_of x)

-- the width that v needs: the larger of the byte width of v - base and m
abbrev pub need : Index → ℕ → ℕ
need x v = need_of (v - base x (last_of x)) (minimum_of x)

-- a new segment is due: the index is empty, or need is above the current width
abbrev pub SegmentDue : Index → ℕ → Type 0
SegmentDue x v = (segments_of x ≡ 0) ⊎ (HasWidth x × (width x (last_of x) < need x v))

-- n bytes are due: none for a new segment, need where a width is due, otherwise the current width
abbrev pub BytesDue : Index → ℕ → ℕ → Type 0
BytesDue x v n =
    (SegmentDue x v × (n ≡ 0))
    ⊎ (WidthDue x × (n ≡ need x v))
    ⊎ (HasWidth x × (need x v ≤ width x (last_of x)) × (n ≡ width x (last_of x)))

-- 10 in push: the last segment's width entry outside m to 8
abbrev pub last_damaged : Index → Sentence
last_damaged x = 10 if (HasWidth x × Outside (minimum_of x) (width x (last_of x)))

-- 1 Below: v is below the current base
abbrev pub below : Index → ℕ → Sentence
below x v = 1 if ((0 < segments_of x) × (v < base x (last_of x)))

-- 2 SegmentRoom: a new segment is due; segments is 65,535 or a u64 table is full
abbrev pub segment_room : Index → ℕ → Sentence
segment_room x v =
    2 if (SegmentDue x v
    × ((segments_of x ≡ segment_limit)
    ⊎ (segments_of x ≡ length x.starts) ⊎ (segments_of x ≡ length x.bases) ⊎ (segments_of x ≡ length x.offsets)))

-- 3 WidthRoom: a width is due and its table is full
abbrev pub width_room : Index → Sentence
width_room x = 3 if (WidthDue x × (widths_of x ≡ length x.widths))

-- 4 DataRoom: used + bytes due exceeds the data length or 4,294,967,295
abbrev pub data_room : Index → ℕ → Sentence
data_room x v = 4 if ((n : ℕ) × BytesDue x v n × ((length x.bytes < used_of x + n) ⊎ (data_limit < used_of x + n)))

-- push: 9, then 10, 1, 2, 3, 4
abbrev pub push_table : Index → ℕ → List Sentence
push_table x v = counts x ∷ last_damaged x ∷ below x v ∷ segment_room x v ∷ width_room x ∷ data_room x v ∷ []

-- length and size: 9
abbrev pub counts_table : Index → List Sentence
counts_table x = counts x ∷ []

-- 5 Position: p is at or past length
abbrev pub position : Index → ℕ → Sentence
position x p = 5 if (length_of x ≤ p)

-- where the delta of position p stands in the data, read in segment s
abbrev pub delta_place : Index → ℕ → ℕ → ℕ
delta_place x s p = offset x s + (p - start x s - 1) * width x s

-- damage of position p in segment s: the start is above p; or p is past the start and there is no width entry, the width is outside m to 8,
-- the delta bytes don't end within used, or base + delta is above 2^64 - 1
abbrev pub ReadDamaged : Index → ℕ → ℕ → Type 0
ReadDamaged x s p =
    (p < start x s)
    ⊎ ((start x s < p)
    × ((widths_of x ≤ s)
    ⊎ Outside (minimum_of x) (width x s)
    ⊎ (used_of x < delta_place x s p + width x s)
    ⊎ (2 ^ 64 - 1 < base x s + delta_at x.bytes (delta_place x s p) (width x s))))

-- damage of get(p): k, from halving over starts, is 0; or p is damaged in segment k - 1
abbrev pub GetDamaged : Index → ℕ → Type 0
GetDamaged x p = (starts_up_to x p ≡ 0) ⊎ ReadDamaged x (starts_up_to x p - 1) p

-- get: 9, then 5, 10
abbrev pub get_table : Index → ℕ → List Sentence
get_table x p = counts x ∷ position x p ∷ 10 if (GetDamaged x p) ∷ []

-- a range a..b: 9, then 6 RangeEnd: b exceeds length, then 7 Reversed: a exceeds b
abbrev pub range_sentences : Index → ℕ → ℕ → List Sentence
range_sentences x a b = counts x ∷ 6 if (length_of x < b) ∷ 7 if (b < a) ∷ []

-- get_range: 9, 6, 7, then 8 OutputRoom: output shorter than b - a, then 10: a get of a..b is damaged
abbrev pub range_table : Index → ℕ → ℕ → List ℕ → List Sentence
range_table x a b out =
    range_sentences x a b
    ++ (8 if (length out < b - a) ∷ 10 if ((p : ℕ) × (a ≤ p) × (p < b) × GetDamaged x p) ∷ [])

-- opening a cursor: 9, 6, 7
abbrev pub iter_table : Index → ℕ → ℕ → List Sentence
iter_table x a b = range_sentences x a b

-- target_range: 9, then 5, 10: get(p) is damaged, or p + 2 is at most length and get(p + 1) is
abbrev pub target_table : Index → ℕ → List Sentence
target_table x p = counts x ∷ position x p ∷ 10 if (GetDamaged x p ⊎ ((p + 2 ≤ length_of x) × GetDamaged x (p + 1))) ∷ []

-- damage of v searched in segment s: its start is at or past length; its base is above v; or its base is below v, it has a width entry, and
-- the width is outside m to 8, not offset <= end <= used (the end is the next offset, or used), or the deltas are more than length - start - 1
abbrev pub SearchDamaged : Index → ℕ → ℕ → Type 0
SearchDamaged x s v =
    (length_of x ≤ start x s)
    ⊎ (v < base x s)
    ⊎ ((base x s < v) × (s < widths_of x)
    × (Outside (minimum_of x) (width x s)
    ⊎ (mark x (s + 1) < offset x s)
    ⊎ (used_of x < mark x (s + 1))
    ⊎ (length_of x - start x s - 1 < (mark x (s + 1) - offset x s) / width x s)))

-- damage of bisect_left(v): length is not 0, k, from halving over bases, is not 0, and v is damaged in segment k - 1
abbrev pub BisectDamaged : Index → ℕ → Type 0
BisectDamaged x v = (0 < length_of x) × (0 < bases_up_to x v) × SearchDamaged x (bases_up_to x v - 1) v

-- bisect_left: 9, then 10
abbrev pub bisect_table : Index → ℕ → List Sentence
bisect_table x v = counts x ∷ 10 if (BisectDamaged x v) ∷ []

-- bisect_range_left: 9, 6, 7, then 10
abbrev pub bisect_range_table : Index → ℕ → ℕ → ℕ → List Sentence
bisect_range_table x a b v = range_sentences x a b ++ (10 if (BisectDamaged x v) ∷ [])

-- a delta run's count: 10: a width outside 1 to 8
abbrev pub run_count_table : ℕ → List Sentence
run_count_table w = 10 if (Outside 1 w) ∷ []

-- a delta run's i-th value: 10: a width outside 1 to 8, then 5: i at or past its count, then 10: base + delta is above 2^64 - 1
abbrev pub run_value_table : List ℕ → (base w i : ℕ) → List Sentence
run_value_table bytes base w i =
    10 if (Outside 1 w) ∷ 5 if (length bytes / w ≤ i) ∷ 10 if (2 ^ 64 - 1 < base + delta_at bytes (i * w) w) ∷ []
