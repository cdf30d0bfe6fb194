-- The code's plan in the rule's words, and the room that a plan counts on.
use Rattle.std.specs.Prelude.{◌+◌, ◌≤◌, ◌<◌, length, Ok, Err}
use Rattle.std.specs.declared.result.Result.{Result}
use Rattle.rules.specs.declared.Refusal.{Refusal}
use Rattle.rules.specs.Words.{Facts}
use Rattle.rules.specs.Record.{Index, segments_of, widths_of, used_of}
use Rattle.rules.specs.Push as rule
use Rattle.rules.specs.Refusals.{number_of}
use Rattle.laws.specs.Orders.{orders_of}
use Rattle.push_plan.specs.declared.Plan.{Plan}
use Rattle.push_plan.specs.declared.Plan.TheVariants.{Segment, First, More}

-- what a plan says, or the refusal's number
abbrev pub planned : Result Plan Refusal → rule.Plan
planned (Ok Segment) = rule.segment
planned (Ok (First delta need)) = rule.first delta need
planned (Ok (More delta width)) = rule.more delta width
planned (Err e) = rule.refuse (number_of e)

-- what holds where a plan is not a refusal: the counts rule, and room for what it appends
abbrev pub HasRoom : Index → rule.Plan → Type 0
HasRoom x (rule.refuse e) = Unit {0}
HasRoom x rule.segment = Facts (orders_of x) × (segments_of x < length x.starts) × (segments_of x < length x.bases) × (segments_of x < length x.offsets)
HasRoom x (rule.first d n) = Facts (orders_of x) × (widths_of x < length x.widths) × (used_of x + n ≤ length x.bytes) × (n ≤ 8)
HasRoom x (rule.more d w) = Facts (orders_of x) × (used_of x + w ≤ length x.bytes)
