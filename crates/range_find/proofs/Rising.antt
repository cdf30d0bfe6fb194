-- Where starts never fall, a segment that holds a position is the one that the position's halving finds.
use Prim.Native.Nat.{ℕ, ◌+◌, ◌≤◌, ◌<◌, min}
use mathlib.Core.List.{List}
use mathlib.Core.Path.{◌≡◌, sym}
use native.Mathlib.Omega.{arith}
use native.Mathlib.Nat.{le_trans, lt_of_lt_of_le}
use lib.ListN.{length, get_or}
use borrow.Author.Tests.{leb-true, le-leb, lt-leb}
use Rattle.std.specs.List.Sorted.{IsNonDecreasing}
use Rattle.std.proofs.lemmas.List.{get_or_default}
use Rattle.rules.specs.Reading.{halving, at_most}
use Rattle.laws.proofs.Halving.{halving_is}
use Rattle.index_stream.specs.Searches.{Finds}

module _ (starts : List ℕ) (k : ℕ) (rises : IsNonDecreasing starts) (h : k < length starts) where
  -- segment k holds u: it starts at most at u, and the next, if there is one, above u
  rises_finds : (u : ℕ) → get_or starts k 0 ≤ u → (k + 1 < length starts → u < get_or starts (k + 1) 0) → k + 1 ≡ (halving (at_most starts u) (length starts)).number
  rises_finds u l next =
      sym (halving_is (at_most starts u) (length starts) (k + 1)
      (record {
        within = omega arith;
        before = λ i g. le-leb (get_or starts i 0) u (le_trans (rises i k 0 (omega arith) h) l);
        after = λ i g b. lt-leb (get_or starts i 0) u (lt_of_lt_of_le (next (omega arith)) (rises (k + 1) i 0 g b));
      })
      (λ i j g b t. le-leb (get_or starts i 0) u (le_trans (rises i j 0 g b) (leb-true (get_or starts j 0) u t))))

  -- so it is found for each position from there up to where the next segment begins
  pub walk_finds : (p next limit until : ℕ) → get_or starts k 0 ≤ p → p < next → p < limit → next ≡ get_or starts (k + 1) limit → until ≡ min next limit
      → Finds starts (length starts) p limit (record { number = k + 1; until = until })
  walk_finds p next limit until l n m e least = record {
    after = omega arith;
    within = omega arith;
    stays = λ u g b. rises_finds u (le_trans l g) (λ s. let d = get_or_default starts (k + 1) limit 0 s in omega arith);
  }
