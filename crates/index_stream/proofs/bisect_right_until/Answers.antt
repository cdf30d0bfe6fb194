-- The invariant: for every u from v up to `until`, halving from here gives what halving from the start gives.
use Prim.Native.Nat.{ℕ, ◌<◌, min}
use mathlib.Core.Path.{◌≡◌, refl, sym, ◌∙◌}
use native.Mathlib.Omega.{arith}
use native.Mathlib.Nat.{le_trans}
use borrow.Author.Tests.{le-leb, lt-leb}
use Rattle.laws.proofs.Halving.{halfway_start, halfway_up, halfway_down, halfway_done}
use Rattle.index_stream.proofs.Turned.{turning_done, turning_up, turning_least}
use Rattle.index_stream.proofs.bisect_right_until.Goals as goal

-- what is below the smaller is below the first
below_least : (a b : ℕ) {u r : ℕ} → r ≡ min a b → u < r → u < a
below_least a b e h = omega arith

pub loop-high-init : goal.loop-high-init
loop-high-init c = (omega arith, omega arith, omega arith, omega arith, λ u l h. halfway_start _ _, refl)

pub loop-high-preserved-then-entry-v : goal.loop-high-preserved-then-entry-v
loop-high-preserved-then-entry-v c =
    let i = c.loop-high.invariant in
    let t = c.if-entry-v.true in
    (omega arith, omega arith, i.2, i.3, λ u l h. halfway_up (i.4 u l h) (omega arith) (le-leb _ _ (le_trans t l)), sym (turning_up _ _ _ _ _ (omega arith) t) ∙ i.5)

pub loop-high-preserved : goal.loop-high-preserved
loop-high-preserved c =
    let i = c.loop-high.invariant in
    let t = c.if-entry-v.false in
    let e = c.min-until.ensures in
    (omega arith, omega arith, omega arith, omega arith, λ u l h. halfway_down (i.4 u l (omega arith)) (omega arith) (lt-leb _ _ (below_least _ _ e h)), turning_least _ _ _ _ _ (omega arith) t _ e ∙ i.5)

pub returns : goal.returns
returns c =
    let i = c.loop-high.invariant in
    (record { after = i.2; within = i.3; stays = λ u l h. halfway_done (i.4 u l h) c.if-high-low.true }, sym (turning_done _ _ _ _ _ c.if-high-low.true) ∙ i.5)
