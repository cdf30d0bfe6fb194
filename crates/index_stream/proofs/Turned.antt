-- The least entry that a halving turns down, step by step as the code finds it.
use Prim.Native.Nat.{ℕ, zero, suc, ◌+◌, ◌-◌, ◌≤◌, ◌<◌, min}
use mathlib.Core.List.{List}
use mathlib.Core.Path.{◌≡◌, refl, sym, ◌∙◌}
use native.Mathlib.Omega.{arith}
use lib.Dec.{ltb}
use lib.ListN.{get_or}
use borrow.Author.Tests.{ltb-true, le-leb, lt-leb, lt-ltb, le-ltb}
use Rattle.rules.specs.Reading.{middle, at_most}
use Rattle.laws.proofs.Tests.{by_test}
use Rattle.index_stream.specs.Searches.{turned_from, turning}

-- enough turns are enough
turns_enough : (f g : ℕ) (table : List ℕ) (v lo hi limit : ℕ) → hi - lo ≤ f → hi - lo ≤ g → turned_from f table v lo hi limit ≡ turned_from g table v lo hi limit
unfolding turned_from
turns_enough zero zero table v lo hi limit hf hg = refl
turns_enough zero (suc g) table v lo hi limit hf hg = rw (le-ltb lo hi (omega arith), turned_from)
turns_enough (suc f) zero table v lo hi limit hf hg = rw (le-ltb lo hi (omega arith), turned_from)
turns_enough (suc f) (suc g) table v lo hi limit hf hg =
    by_test (ltb lo hi)
    (λ t. let h = ltb-true lo hi t in
    by_test (at_most table v (middle lo hi))
    (λ u. rw (t, u, turned_from) (turns_enough f g table v (middle lo hi + 1) hi limit (omega arith) (omega arith)))
    (λ u. rw (t, u, turned_from) (turns_enough f g table v lo (middle lo hi) (min (get_or table (middle lo hi) 0) limit) (omega arith) (omega arith))))
    (λ t. rw (t, turned_from))

module _ (table : List ℕ) (v lo hi limit : ℕ) where
  more : turning table v lo hi limit ≡ turned_from (suc (hi - lo)) table v lo hi limit
  unfolding turning
  more = turns_enough (hi - lo) (suc (hi - lo)) table v lo hi limit (omega arith) (omega arith)

  -- the three steps of the halving
  pub turning_done : hi ≤ lo → turning table v lo hi limit ≡ limit
  unfolding turned_from
  turning_done h = more ∙ rw (le-ltb lo hi h, turned_from)

  pub turning_up : lo < hi → get_or table (middle lo hi) 0 ≤ v → turning table v lo hi limit ≡ turning table v (middle lo hi + 1) hi limit
  unfolding turning turned_from
  turning_up h u =
      more ∙ rw (lt-ltb lo hi h, le-leb (get_or table (middle lo hi) 0) v u, turned_from)
      (turns_enough (hi - lo) (hi - (middle lo hi + 1)) table v (middle lo hi + 1) hi limit (omega arith) (omega arith))

  turning_down : lo < hi → v < get_or table (middle lo hi) 0
      → turning table v lo hi limit ≡ turning table v lo (middle lo hi) (min (get_or table (middle lo hi) 0) limit)
  unfolding turning turned_from
  turning_down h u =
      more ∙ rw (lt-ltb lo hi h, lt-leb (get_or table (middle lo hi) 0) v u, turned_from)
      (turns_enough (hi - lo) (middle lo hi - lo) table v lo (middle lo hi) (min (get_or table (middle lo hi) 0) limit) (omega arith) (omega arith))

  -- a step down, said of the entry as the code has it
  pub turning_least : lo < hi → v < get_or table (middle lo hi) 0 → (w : ℕ) → w ≡ min (get_or table (middle lo hi) 0) limit
      → turning table v lo (middle lo hi) w ≡ turning table v lo hi limit
  turning_least h u w e = rw e (sym (turning_down h u))
