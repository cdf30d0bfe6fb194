-- An entry as the code finds it is the rule's; a number that no table has is none of the rule's.
use Prim.Native.Nat.{ℕ}
use mathlib.Core.List.{List}
use mathlib.Core.Path.{◌≡◌, sym}
use lib.Dec.{ltb}
use lib.ListN.{length}
use borrow.Author.Tests.{ltb-true, ltb-false, ne_eqb}
use Rattle.std.specs.Prelude.{◌≢◌, None, slice_get}
use Rattle.std.proofs.lemmas.Option.{slice_get-get_or, slice_get_past}
use Rattle.rules.specs.Words.{when}
use Rattle.rules.specs.Record.{Index}
use Rattle.laws.proofs.Tests.{by_test}
use Rattle.replay.specs.declared.kinds.Table.{Table}
use Rattle.replay.specs.declared.kinds.Table.TheVariants.{Starts, Bases, Offsets, Widths, Bytes}
use Rattle.replay.specs.Kinds.{table_number}
use Rattle.replay.specs.Replies.{entry_reply, unknown_reply}
use Rattle.replay.specs.Replaying.{entry_rule, table_rule}

-- entry k of the n in use
pub entry_found : (table : List ℕ) (n k : ℕ) → entry_reply (when (ltb k n) (slice_get table k) None) ≡ entry_rule table n k
unfolding entry_rule
entry_found table n k =
    by_test (ltb k n)
    (λ t. by_test (ltb k (length table))
    (λ u. rw (t, u, slice_get-get_or table k 0 (ltb-true k (length table) u)))
    (λ u. rw (t, u, slice_get_past table k (ltb-false k (length table) u))))
    (λ t. rw t)

-- a number of no table
pub table_unknown : (x : Index) (t k : ℕ) → ((u : Table) → table_number u ≢ t) → unknown_reply ≡ table_rule x t k
unfolding table_rule
table_unknown x t k h =
    rw (ne_eqb t 0 (λ e. h Starts (sym e)), ne_eqb t 1 (λ e. h Bases (sym e)), ne_eqb t 2 (λ e. h Offsets (sym e)), ne_eqb t 3 (λ e. h Widths (sym e)), ne_eqb t 4 (λ e. h Bytes (sym e)))
