-- The library's answer.
use Rattle.std.proofs.lemmas.List.Sorted.{non_decreasing_from_is_sorted}
use Rattle.std.proofs.iter.Next.{if_yes}
use Rattle.range_find.proofs.rises.Goals as goal

pub returns-then-starts-positions : goal.returns-then-starts-positions
returns-then-starts-positions c = λ t. if_yes _ _ t (non_decreasing_from_is_sorted _ _ c.is_sorted.ensures.cases)
