-- What the demands speak of beside the rules: values of 64 bits, room for n values, a walk, a segment's bytes.
use Rattle.std.specs.Prelude.{ℕ, ◌+◌, ◌-◌, ◌*◌, ◌/◌, ◌^◌, ◌≤◌, ◌<◌, List, [], ◌∷◌, ◌≡◌, take, drop}
use Rattle.rules.specs.declared.Cursor.{Cursor}
use Rattle.rules.specs.Record.{Room, Index, mark}
use Rattle.rules.specs.Reading.{done, gave, step_rule}

-- each value is below 2^64
abbrev pub Small : List ℕ → Type 0
Small [] = Unit
Small (v ∷ vs) = (v < 2 ^ 64) × Small vs

-- room for n values: (n + 1) / 2 entries in each of the four tables and 8 x (n - 1) data bytes, n at most 131,070
pub record RoomFor (r : Room) (n : ℕ) : Type 0 where
  pub most : n ≤ 131070
  pub starts : (n + 1) / 2 ≤ r.starts
  pub bases : (n + 1) / 2 ≤ r.bases
  pub offsets : (n + 1) / 2 ≤ r.offsets
  pub widths : (n + 1) / 2 ≤ r.widths
  pub bytes : 8 * (n - 1) ≤ r.bytes

-- a walk from this cursor without refusal: steps that give these values, each on the cursor the one before left, then done
abbrev pub Walks : Index → Cursor → List ℕ → Type 0
Walks x c [] = step_rule x c ≡ done
Walks x c (v ∷ vs) = (next : Cursor) × (step_rule x c ≡ gave v next) × Walks x next vs

-- the packed bytes of segment k
abbrev pub bytes_of : Index → ℕ → List ℕ
bytes_of x k = take (mark x (k + 1) - mark x k) (drop (mark x k) x.bytes)
