-- Where every test holds, segment k has a whole frame.
use mathlib.Core.Path.{sym}
use native.Mathlib.Omega.{arith}
use Rattle.laws.proofs.Answers.{width_there}
use Rattle.range_reads.proofs.Deciding.{sure_all}
use Rattle.range_reads.proofs.sure_until.Goals as goal

pub returns-then-run_sure : goal.returns-then-run_sure
returns-then-run_sure c =
    let g = width_there _ _ _ _ (sym c.in-Of.ensures) in
    let counts = c.args.g.counted.counts in
    sure_all _ _ _ _ _ c.requires.after c.requires.some
    (record {
      has = g.0;
      is = g.1;
      least = c.if-index-width.true;
      most = c.if-width-le8.true;
      from = rw (← c.offset-offset.ensures) c.if-offset-used.true;
      within = omega (arith, counts);
      run = rw (← c.offset-offset.ensures, ← c.base.ensures, ← c.start.ensures) (c.run_sure.ensures c.if-run_sure.true);
    })
