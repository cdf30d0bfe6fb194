-- get_range over starts that are not sorted, 0 2 1 1: position 1 is read in segment 3, which its own halving finds. A walk from segment 0 up to
-- the next start, 2, would read it in segment 0 and find damage.
use mathlib.Core.List.{[], ◌∷◌}
use mathlib.Core.Path.{◌≡◌, refl}
use Rattle.rules.specs.Words.{value, when_all}
use Rattle.rules.specs.Record.{Index, index, state, counts_hold}
use Rattle.rules.specs.Reading.{halve_from, halve, delta_read, read_in, starts_up_to, get_rule, reads, ranged, range_rule}

-- four segments of one value each, no data byte in use
abbrev pub unsorted : Index
unsorted = index (state 1 4 4 4 0) (0 ∷ 2 ∷ 1 ∷ 1 ∷ []) (100 ∷ 200 ∷ 300 ∷ 400 ∷ []) (0 ∷ 0 ∷ 0 ∷ 0 ∷ []) (1 ∷ 1 ∷ 1 ∷ 1 ∷ []) (0 ∷ [])

-- the values 100 and 400, and the rest of the output as it was
pub unsorted_range : range_rule unsorted 0 2 (7 ∷ 7 ∷ 7 ∷ []) ≡ ranged (value 2) (100 ∷ 400 ∷ 7 ∷ [])
unfolding when_all counts_hold halve_from halve delta_read read_in starts_up_to get_rule reads range_rule
unsorted_range = refl
