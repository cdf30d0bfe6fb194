-- The state's tests, then the tables': the two callees' answers, one under the other.
use mathlib.Core.Path.{sym, ◌∙◌}
use Rattle.rules.specs.Record.{counts_hold}
use Rattle.laws.proofs.Tests.{taken, left, facts_of, refuted_of}
use Rattle.tables.proofs.counts_hold.Goals as goal

pub returns-else-state_holds : goal.returns-else-state_holds
unfolding counts_hold
returns-else-state_holds c = c.if-state_holds.false ∙ sym (left _ _ _ (refuted_of _ (sym c.state_holds.ensures ∙ c.if-state_holds.false)))

pub returns-then-state_holds : goal.returns-then-state_holds
unfolding counts_hold
returns-then-state_holds c = c.room_holds.ensures ∙ sym (taken _ _ _ (facts_of _ (sym c.state_holds.ensures ∙ c.if-state_holds.true)))
