-- The invariant: what is still to be stored, stored now, gives the whole.
use mathlib.Core.Path.{◌≡◌}
use Prim.Native.Nat.{◌-◌}
use lib.Seq.{sets}
use Rattle.rules.specs.Push.{delta_bytes}
use Rattle.delta.proofs.store_delta.Given as goal

abbrev pub invariant-loop-i : goal.invariant-loop-i
invariant-loop-i l = sets l.tail l.i (delta_bytes (l.width - l.i) l.rest) ≡ sets l.initial.tail 0 (delta_bytes l.width l.delta)
