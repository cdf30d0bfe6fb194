-- Segment k holds p, since the starts never fall.
use Rattle.range_find.proofs.Rising.{walk_finds}
use Rattle.range_find.proofs.Finder.find.Goals as goal

pub returns-then-p-next : goal.returns-then-p-next
returns-then-p-next c =
    let f = c.args.self.now in
    walk_finds f.starts.now _ (f.rises c.if-self.true) c.if-k-starts.true _ _ _ _ c.if-starts-k.true c.if-p-next.true c.requires c.entry_or-next.ensures c.min.ensures
