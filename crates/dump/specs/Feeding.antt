-- Document 01, "The dump program": 8-byte little-endian values from an input that comes in pieces, pushed up to the first refusal.
use Rattle.std.specs.Prelude.{ℕ, ◌+◌, ◌*◌, ◌/◌, ◌^◌, List, [], ◌∷◌, ◌++◌, ltb, eqb, Some, None}
use Rattle.std.specs.declared.option.Option.{Option}
use Rattle.std.specs.declared.num.NonZeroU64.{NonZeroU64}
use Rattle.std.specs.NonZero.{non_zero_u64_get}
use Rattle.rules.specs.Words.{when, unless, Answer, value, refused}
use Rattle.rules.specs.Record.{Index, index, default_minimum, fresh_state}
use Rattle.rules.specs.Push.{delta_bytes, push_rule}
use Rattle.rules.specs.Refusals.{index_in}
use Rattle.dump.specs.declared.Feed.{Feed}

-- the index so far; how many bytes of the next value have come, and what they make; the number of the refusal, 0 for none
pub record Fed : Type 0 where
  pub index : Index
  pub count : ℕ
  pub partial : ℕ
  pub refusal : ℕ

-- these four together
abbrev pub fed : Index → ℕ → ℕ → ℕ → Fed
fed x count partial refusal = record { index = x; count = count; partial = partial; refusal = refusal }

-- the number of the refusal that ended it, 0 for none
abbrev pub number_in : Option NonZeroU64 → ℕ
number_in None = 0
number_in (Some n) = non_zero_u64_get n

-- what the code carries
abbrev pub fed_of : Feed → Fed
fed_of f = fed (index_in f.index) f.count f.partial (number_in f.refusal)

-- before the first piece: an index over five tables with a fresh state, no m given, and no byte
abbrev pub nothing : List ℕ → List ℕ → List ℕ → List ℕ → List ℕ → Fed
nothing starts bases offsets widths bytes = fed (index (fresh_state default_minimum) starts bases offsets widths bytes) 0 0 0

-- a byte more of a value: it goes on top and the ones before it move down, so that the first of eight ends as the least significant
abbrev pub with_byte : ℕ → ℕ → ℕ
with_byte partial b = partial / 256 + b * 256 ^ 7

-- the number of a refusal, 0 for none
abbrev pub refusal_of : Answer ℕ → ℕ
refusal_of (value p) = 0
refusal_of (refused e) = e

-- a whole value is pushed: the next one begins, or the refusal is kept
abbrev pub value_rule : Index → ℕ → Fed
value_rule x v = fed (push_rule x v).left 0 0 (refusal_of (push_rule x v).answer)

-- a byte of the input: passed over after a refusal; one of a value's first seven; or its last, and the value is pushed
unfoldable pub byte_rule : Fed → ℕ → Fed
byte_rule f b =
    unless (eqb f.refusal 0) f
    (when (ltb f.count 7) (fed f.index (f.count + 1) (with_byte f.partial b) 0)
    (value_rule f.index (with_byte f.partial b)))

-- the bytes of a piece, one after another
unfoldable pub feed_rule : Fed → List ℕ → Fed
feed_rule f [] = f
feed_rule f (b ∷ bs) = feed_rule (byte_rule f b) bs

-- values as 8 bytes each, least significant first
abbrev pub bytes_of : List ℕ → List ℕ
bytes_of [] = []
bytes_of (v ∷ vs) = delta_bytes 8 v ++ bytes_of vs

-- whole values, pushed one after another up to the first refusal
unfoldable pub push_all : Fed → List ℕ → Fed
push_all f [] = f
push_all f (v ∷ vs) = unless (eqb f.refusal 0) f (push_all (value_rule f.index v) vs)
