-- The rest of the piece, fed now, gives what the whole piece gives.
use Rattle.std.proofs.Common.{◌≡◌, drop}
use Rattle.rules.specs.Refusals.{SameTables}
use Rattle.dump.specs.Feeding.{fed_of, feed_rule}
use Rattle.dump.proofs.Feed.feed.Given as goal

abbrev pub invariant-loop-byte : goal.invariant-loop-byte
invariant-loop-byte l =
    SameTables l.self.index l.initial.self.index
    × (feed_rule (fed_of l.self) (drop l.byte-index l.piece) ≡ feed_rule (fed_of l.initial.self) l.piece)
