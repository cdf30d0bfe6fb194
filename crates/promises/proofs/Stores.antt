-- A store and a run of stores leave every entry before and behind them.
use Prim.Native.Nat.{ℕ, zero, suc, ◌+◌, ◌≤◌, ◌<◌}
use mathlib.Core.List.{List, [], ◌∷◌}
use mathlib.Core.Logic.{⊎_elim}
use mathlib.Core.Path.{◌≡◌, refl, ◌∙◌}
use native.Mathlib.Omega.{arith}
use native.Mathlib.Nat.{add-zero, add-suc, suc-add}
use lib.ListN.{length, get_or, set, length-set}
use lib.Seq.{sets, length-sets, get_or-set_same, get_or-set_other}
use Rattle.rules.specs.Push.{delta_bytes}
use Rattle.laws.proofs.Bytes.{length_bytes, sets_before}
use Rattle.promises.specs.Kept.{Kept}

-- nothing is stored
pub kept_all : (from to : ℕ) (l : List ℕ) → Kept from to l l
kept_all from to l = record { long = refl; entries = λ i h. refl }

-- one entry is stored
pub kept_set : (l : List ℕ) (at v : ℕ) → Kept at (at + 1) l (set l at v)
kept_set l at v = record {
  long = length-set l at v;
  entries = λ i. ⊎_elim (λ h. get_or-set_other l at i v 0 (λ e. omega arith)) (λ h. get_or-set_other l at i v 0 (λ e. omega arith));
}

-- a run of stores leaves what stands behind it
pub sets_after : (vs l : List ℕ) (at i : ℕ) → at + length vs ≤ i → get_or (sets l at vs) i 0 ≡ get_or l i 0
sets_after [] l at i h = refl
sets_after (v ∷ vs) l at i h = sets_after vs (set l at v) (suc at) i (omega arith) ∙ get_or-set_other l at i v 0 (λ e. omega arith)

-- and puts its values in order
pub sets_at : (vs l : List ℕ) (at i : ℕ) → at + length vs ≤ length l → i < length vs → get_or (sets l at vs) (at + i) 0 ≡ get_or vs i 0
sets_at [] l at i h k = absurd (omega arith)
sets_at (v ∷ vs) l at zero h k =
    rw (add-zero at) (sets_before vs (set l at v) (suc at) at (omega arith) ∙ get_or-set_same l at v 0 (omega arith))
sets_at (v ∷ vs) l at (suc i) h k =
    rw (add-suc at i, ← suc-add at i) (sets_at vs (set l at v) (suc at) i (rw length-set (omega arith)) (omega arith))

-- entries are stored one after another
pub kept_sets : (l : List ℕ) (at : ℕ) (vs : List ℕ) → Kept at (at + length vs) l (sets l at vs)
kept_sets l at vs = record { long = length-sets l at vs; entries = λ i. ⊎_elim (sets_before vs l at i) (sets_after vs l at i) }

-- a delta's bytes are stored
pub kept_bytes : (l : List ℕ) (at w d : ℕ) → Kept at (at + w) l (sets l at (delta_bytes w d))
kept_bytes l at w d = rw (length_bytes w d) at (kept_sets l at (delta_bytes w d))
