-- One statement over the one list of examples, proved by computing both sides.
use mathlib.Core.List.{map}
use mathlib.Core.Path.{◌≡◌, refl}
use lib.Count.{count_leading_zeros}
use Rattle.rules.specs.Words.{when_all}
use Rattle.rules.specs.Record.{counts_hold, open_rule}
use Rattle.rules.specs.Push.{delta_at, segment_plan, first_plan, next_plan, plan_of, push_rule, length_rule, size_rule}
use Rattle.rules.specs.Reading.{halve_from, halve, delta_read, read_in, starts_up_to, get_rule, reads, range_rule, iter_rule, step_rule, run_count_rule, run_value_rule, target_end, target_rule, delta_search, bisect_in, bases_up_to, bisect_rule, bisect_range_rule}
use Rattle.rules.specs.Run.{run}
use Rattle.promises.specs.Examples.{Example, examples}

-- each input is refused with the number that is due
pub shown : map (λ (e : Example). e.given) examples ≡ map (λ (e : Example). e.due) examples
unfolding examples count_leading_zeros when_all counts_hold open_rule delta_at segment_plan first_plan next_plan plan_of push_rule length_rule size_rule halve_from halve delta_read read_in starts_up_to get_rule reads range_rule iter_rule step_rule run_count_rule run_value_rule target_end target_rule delta_search bisect_in bases_up_to bisect_rule bisect_range_rule run
shown = refl
