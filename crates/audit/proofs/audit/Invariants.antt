-- While the first k segments have no flaw, the verdict is the one on the segments from k on.
use Prim.Native.Nat.{◌-◌}
use mathlib.Core.Path.{◌≡◌}
use Rattle.rules.specs.Record.{segments_of}
use Rattle.rules.specs.Audit.{audit_rule, audit_from}
use Rattle.rules.specs.Refusals.{index_of}
use Rattle.audit.proofs.audit.Given as goal

abbrev pub invariant-loop-k : goal.invariant-loop-k
invariant-loop-k l =
    let x = index_of l.counted.index.now in
    audit_rule (index_of l.fn.x) ≡ audit_from x (segments_of x - l.k) l.k
