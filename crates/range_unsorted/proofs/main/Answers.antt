-- The output that get_range leaves is what its rule gives, and that is computed: each expected entry is read off.
use Rattle.std.proofs.Common.{◌≡◌, ℕ, List, [], ◌∷◌, ap, ◌∙◌, slice_index_or, nat_eq}
use Rattle.rules.specs.Words.{Answer}
use Rattle.rules.specs.Reading.{Ranged, ranged, range_rule}
use Rattle.compact_range.proofs.Unsorted.{unsorted, unsorted_range}
use Rattle.range_unsorted.proofs.main.Goals as goal

-- what get_range left
left : (answer : Answer ℕ) (out : List ℕ) → ranged answer out ≡ range_rule unsorted 0 2 (7 ∷ 7 ∷ 7 ∷ []) → out ≡ 100 ∷ 400 ∷ 7 ∷ []
left answer out e = ap (λ (r : Ranged). r.left) (e ∙ unsorted_range)

pub expect-requires : goal.expect-requires
expect-requires c = ap (λ (out : List ℕ). nat_eq (slice_index_or out 0 0) 100) (left _ _ c.get_range.ensures)

pub expect-requires-2 : goal.expect-requires-2
expect-requires-2 c = ap (λ (out : List ℕ). nat_eq (slice_index_or out 1 0) 400) (left _ _ c.get_range.ensures)

pub expect-requires-3 : goal.expect-requires-3
expect-requires-3 c = ap (λ (out : List ℕ). nat_eq (slice_index_or out 2 0) 7) (left _ _ c.get_range.ensures)
