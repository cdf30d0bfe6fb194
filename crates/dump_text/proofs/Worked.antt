-- W9's output is document 01's, to the byte: both sides computed.
use mathlib.Core.Path.{◌≡◌, refl}
use lib.Count.{count_leading_zeros}
use Rattle.rules.specs.Words.{when_all}
use Rattle.rules.specs.Record.{counts_hold}
use Rattle.rules.specs.Push.{segment_plan, first_plan, next_plan, plan_of, push_rule, length_rule, size_rule}
use Rattle.rules.specs.Refusals.{width_at}
use Rattle.dump.specs.Feeding.{byte_rule, feed_rule}
use Rattle.dump_put.specs.Report.{places, decimal, end_line, segment_line, report_line, lines_from, report}
use Rattle.dump_text.specs.Worked.{w9_fed, w9_output}

-- the report on W9's values
pub w9_report : report w9_fed ≡ w9_output
unfolding count_leading_zeros when_all counts_hold segment_plan first_plan next_plan plan_of push_rule length_rule size_rule width_at byte_rule feed_rule places decimal end_line segment_line report_line lines_from report
w9_report = refl
