-- Where the counts rule holds, its orders do.
use mathlib.Core.Path.{sym}
use Rattle.laws.proofs.Counts.{counts_facts}
use Rattle.tables.proofs.check_counts.Goals as goal

pub invariant_of-result : goal.invariant_of-result
invariant_of-result c = record { counts = counts_facts _ (sym c.if-not-counts_hold.ensures) }
