-- A range's tests with one thing behind them decide them with anything behind them: by cases on the three tests.
use Prim.Native.Nat.{ℕ}
use mathlib.Core.Path.{◌≡◌}
use lib.Dec.{leb}
use Rattle.rules.specs.Words.{Answer, value, and_then}
use Rattle.rules.specs.Record.{Index, length_of, counts_hold}
use Rattle.rules.specs.Reading.{in_range}
use Rattle.laws.proofs.Tests.{by_test}

-- whatever stands behind the tests, they answer first
pub in_range_lem : {A B : Type 0} (x : Index) (a b : ℕ) (v : B) (rest : Answer A) → in_range x a b rest ≡ and_then (in_range x a b (value v)) (λ u. rest)
in_range_lem x a b v rest =
    by_test (counts_hold x)
    (λ t. by_test (leb b (length_of x))
    (λ u. by_test (leb a b) (λ w. rw (t, u, w)) (λ w. rw (t, u, w)))
    (λ u. rw (t, u)))
    (λ t. rw t)
