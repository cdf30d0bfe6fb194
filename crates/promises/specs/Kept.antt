-- What stays: "no lent entry changes", "all entries beyond those appended stay as they were", "the rest of the output stays".
use Rattle.std.specs.Prelude.{ℕ, ◌+◌, ◌-◌, ◌≤◌, ◌<◌, List, ◌⊎◌, ◌≡◌, length, get_or}
use Rattle.rules.specs.Record.{Index, minimum_of, length_of, segments_of, widths_of, used_of, last_of, base, width}
use Rattle.rules.specs.Words.{value}
use Rattle.rules.specs.Push.{with_segment, with_first, with_more}
use Rattle.rules.specs.Reading.{get_rule}
use Rattle.promises.specs.Table.{HasWidth, WidthDue, SegmentDue, need}

-- a table and what is left of it: as many entries, and the same ones before `from` and from `to` on
pub record Kept (from to : ℕ) (old new : List ℕ) : Type 0 where
  pub long : length new ≡ length old
  pub entries : (i : ℕ) → (i < from) ⊎ (to ≤ i) → get_or new i 0 ≡ get_or old i 0

-- an index x and what an accepted push leaves of it
pub record Appended (x y : Index) : Type 0 where
  -- the minimum stays, and length rises by one
  pub minimum : minimum_of y ≡ minimum_of x
  pub length : length_of y ≡ length_of x + 1
  -- at most one segment, one width and 8 bytes are appended
  pub few : (segments_of y ≤ segments_of x + 1) × (widths_of y ≤ widths_of x + 1) × (used_of y ≤ used_of x + 8)
  -- all entries but those appended stay
  pub starts : Kept (segments_of x) (segments_of y) x.starts y.starts
  pub bases : Kept (segments_of x) (segments_of y) x.bases y.bases
  pub offsets : Kept (segments_of x) (segments_of y) x.offsets y.offsets
  pub widths : Kept (widths_of x) (widths_of y) x.widths y.widths
  pub bytes : Kept (used_of x) (used_of y) x.bytes y.bytes

-- what an accepted push of v does to x: a new segment where one is due; where a width is due, that width and the delta in it;
-- otherwise the delta in exactly the current width
abbrev pub Does : Index → ℕ → Index → Type 0
Does x v y =
    (SegmentDue x v × (y ≡ with_segment x v))
    ⊎ (WidthDue x × (y ≡ with_first x (v - base x (last_of x)) (need x v)))
    ⊎ (HasWidth x × (need x v ≤ width x (last_of x)) × (y ≡ with_more x (v - base x (last_of x)) (width x (last_of x))))

-- what get_range(a..b) that answers n leaves of the output: b - a values, each what get answers, and all entries behind them as they were
pub record Filled (x : Index) (a b : ℕ) (out : List ℕ) (n : ℕ) (left : List ℕ) : Type 0 where
  pub count : n ≡ b - a
  pub values : (i : ℕ) → i < b - a → get_rule x (a + i) ≡ value (get_or left i 0)
  pub rest : Kept 0 (b - a) out left
