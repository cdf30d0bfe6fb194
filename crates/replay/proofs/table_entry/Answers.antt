-- A number of no table.
use Rattle.replay.proofs.Entries.{table_unknown}
use Rattle.replay.proofs.table_entry.Goals as goal

pub returns-in_default : goal.returns-in_default
returns-in_default c = table_unknown _ _ _ c.in_default.ensures
