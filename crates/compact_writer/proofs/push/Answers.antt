-- What is planned has room.
use Rattle.push_plan.proofs.Bounds.{bounds}
use Rattle.compact_writer.proofs.push.Goals as goal

pub carry_out-requires : goal.carry_out-requires
carry_out-requires c = rw (c.reader.ensures, c.in_ok-plan.was) at (bounds _ _ _ c.plan_push.ensures)
