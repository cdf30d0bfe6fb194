-- A whole record's words are those of the bytes that came, so its call made and counted is the rule's.
use mathlib.Core.Path.{ap, ◌∙◌}
use borrow.Author.Tests.{le-ltb}
use Rattle.replay.specs.Replaying.{replay_rule}
use Rattle.replay_tally.specs.Tallying.{take_rule}
use Rattle.replay_tally.proofs.Words.{words_front, call_counted}
use Rattle.replay_tally.proofs.take.Goals as goal

pub returns-clause-left : goal.returns-clause-left
unfolding take_rule
returns-clause-left c =
    let chunk = c.in-Some.ensures.cases in
    let same = words_front _ _ chunk.same in
    let call = c.call_of-call.ensures ∙ same.0 in
    rw (le-ltb _ _ chunk.enough)
    (call_counted _ _ _ _ _ _ c.play-found.new.self _ call (c.due_of-due.ensures ∙ same.1) (c.play-found.ensures.left ∙ ap (replay_rule _ _ _) call) c.count.ensures)
