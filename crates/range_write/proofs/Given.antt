-- What a range that is a value gives: each of its reads is one, each search finds some segment, and the reads in that segment are values.
use Prim.Native.Nat.{ℕ, ◌+◌, ◌-◌, ◌≤◌}
use mathlib.Core.Bool.{true}
use mathlib.Core.List.{List}
use mathlib.Core.Path.{◌≡◌, sym, ap, ◌∙◌}
use native.Mathlib.Omega.{arith}
use lib.ListN.{length, take}
use Rattle.rules.specs.Words.{Facts}
use Rattle.rules.specs.Record.{Index, length_of, segments_of}
use Rattle.rules.specs.Reading.{get_rule, reads}
use Rattle.laws.specs.Orders.{orders_of}
use Rattle.laws.proofs.Tests.{by_test, false_not_true}
use Rattle.index_stream.specs.declared.Found.{Found}
use Rattle.index_stream.specs.Searches.{Finds}
use Rattle.range_reads.specs.Values.{is_value, ValuesIn, Values}
use Rattle.range_reads.proofs.Deciding.{Segment, none_found, some_found, reads_bad}

-- each read of a range that is a value is one
pub reads_at : (x : Index) (n a : ℕ) → is_value (reads x a n) ≡ true → Values x a (a + n)
reads_at x n a e q h l = by_test (is_value (get_rule x q)) (λ t. t) (λ t. false_not_true (is_value (reads x a n)) e (reads_bad x n a q h l t))

-- a search for a position among them found some segment, and the reads in it up to `until` are values
pub given : (x : Index) → Facts (orders_of x) → (starts : List ℕ) → starts ≡ take (segments_of x) x.starts → (p limit : ℕ) (r : Found)
    → Finds starts (length starts) p limit r → limit ≤ length_of x → Values x p limit
    → Segment x p r.until (r.number - 1) × ValuesIn x (r.number - 1) p r.until × (1 ≤ r.number)
given x ok starts used p limit r f long good =
    let within = f.within in
    let after = f.after in
    let some = λ (z : r.number ≡ 0). false_not_true (is_value (get_rule x p)) (good p (omega arith) (omega arith)) (ap is_value (none_found x ok starts used p limit r f long z)) in
    let s = some_found x ok starts used p limit r f long some in
    (s, λ q l u. ap is_value (sym (s.gets q l u)) ∙ good q l (omega arith), omega (arith, some))
