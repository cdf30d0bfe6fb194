-- The entries of a table that are in use, as a table of their own.
use Prim.Native.Nat.{ℕ, ◌≤◌, ◌<◌}
use mathlib.Core.List.{List}
use mathlib.Core.Path.{◌≡◌, ap, ◌∙◌}
use native.Mathlib.Omega.{arith}
use lib.Dec.{leb, ltb}
use lib.ListN.{length, take, get_or}
use Rattle.rules.specs.Words.{when}
use Rattle.rules.specs.Reading.{halving, at_most}
use borrow.Author.Tests.{ltb-true, ltb-false}
use Rattle.std.proofs.lemmas.List.{get_or-take, get_or_default, length-take-le}
use Rattle.std.proofs.Math.ListN.{get_or-eq_default}
use Rattle.laws.proofs.Tests.{by_test}
use Rattle.laws.proofs.Halving.{halving_same}

module _ (table : List ℕ) (n : ℕ) (fits : n ≤ length table) where
  -- there are n of them
  pub length_in_use : length (take n table) ≡ n
  length_in_use = length-take-le n table fits

  -- each is the table's own
  pub entry_in_use : (k : ℕ) → k < n → get_or (take n table) k 0 ≡ get_or table k 0
  entry_in_use k h = get_or-take n table k 0 h

  -- past them comes what is asked for
  pub entry_or_end : (k end : ℕ) → get_or (take n table) k end ≡ when (ltb k n) (get_or table k 0) end
  entry_or_end k end =
      by_test (ltb k n)
      (λ t. let h = ltb-true k n t in rw t (get_or-take n table k end h ∙ get_or_default table k end 0 (omega arith)))
      (λ t. rw t (get_or-eq_default (take n table) end (let e = length_in_use in let h = ltb-false k n t in omega arith)))

  -- halving over them is halving over the first n entries
  pub halving_in_use : (v : ℕ) → halving (at_most (take n table) v) (length (take n table)) ≡ halving (at_most table v) n
  halving_in_use v =
      ap (halving (at_most (take n table) v)) length_in_use
      ∙ halving_same (at_most (take n table) v) (at_most table v) n (λ i l. ap (λ e. leb e v) (entry_in_use i l))
