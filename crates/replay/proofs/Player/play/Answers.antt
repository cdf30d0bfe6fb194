-- What each kind of call leaves, and that a kind that reads or is not known leaves all as it was.
use Rattle.replay.proofs.Unknown.{kind_unknown, read_only}
use Rattle.replay.proofs.Player.play.Goals as goal

pub returns-in_default-clause-left : goal.returns-in_default-clause-left
returns-in_default-clause-left c = kind_unknown _ _ _ _ c.in_default.ensures

pub returns-in_default-kind-clause-left : goal.returns-in_default-kind-clause-left
returns-in_default-kind-clause-left c =
    let k = c.in_default-kind in
    rw (c.read.ensures, c.reader.ensures)
    (read_only _ _ _ _ _ c.in-Ok.ensures k.not-Open k.not-Push k.not-GetRange k.not-Output k.not-Iter k.not-Step)
