-- The rule's own test, decided by the branch.
use borrow.Author.Tests.{lt-ltb, le-ltb}
use Rattle.rules.specs.Refusals.{width_at}
use Rattle.tables.proofs.width_of.Goals as goal

pub returns-then-k-x : goal.returns-then-k-x
unfolding width_at
returns-then-k-x c = simp (lt-ltb _ _ c.if-k-x.true)

pub returns : goal.returns
unfolding width_at
returns c = simp (le-ltb _ _ c.if-k-x.false)
