-- A call of no known kind changes nothing; nor does one of a kind that reads.
use Prim.Native.Nat.{ℕ}
use mathlib.Core.List.{List}
use mathlib.Core.Path.{◌≡◌, refl, sym}
use borrow.Author.Tests.{ne_eqb}
use Rattle.std.specs.Prelude.{◌≢◌}
use Rattle.rules.specs.declared.Cursor.{Cursor}
use Rattle.rules.specs.Record.{Index}
use Rattle.replay.specs.declared.Call.{Call}
use Rattle.replay.specs.declared.kinds.Kind.{Kind}
use Rattle.replay.specs.declared.kinds.Kind.TheVariants.{Open, Push, Length, Size, Get, GetRange, Output, Iter, Step, TargetRange, BisectLeft, BisectRangeLeft, Entry}
use Rattle.replay.specs.Kinds.{kind_number}
use Rattle.replay.specs.Replies.{unknown_reply}
use Rattle.replay.specs.Replaying.{played, find_rule, reply_rule, read_rule, replay_rule}

-- the call is none of the rule's
pub kind_unknown : (x : Index) (c : Cursor) (out : List ℕ) (k : Call) → ((u : Kind) → kind_number u ≢ k.kind) → played x c out unknown_reply ≡ replay_rule x c out k
unfolding find_rule reply_rule read_rule replay_rule
kind_unknown x c out k h =
    let n = k.kind in
    rw (
      ne_eqb n 1 (λ e. h Open (sym e)),
      ne_eqb n 2 (λ e. h Push (sym e)),
      ne_eqb n 3 (λ e. h Length (sym e)),
      ne_eqb n 4 (λ e. h Size (sym e)),
      ne_eqb n 5 (λ e. h Get (sym e)),
      ne_eqb n 6 (λ e. h GetRange (sym e)),
      ne_eqb n 7 (λ e. h Output (sym e)),
      ne_eqb n 8 (λ e. h Iter (sym e)),
      ne_eqb n 9 (λ e. h Step (sym e)),
      ne_eqb n 10 (λ e. h TargetRange (sym e)),
      ne_eqb n 11 (λ e. h BisectLeft (sym e)),
      ne_eqb n 12 (λ e. h BisectRangeLeft (sym e)),
      ne_eqb n 13 (λ e. h Entry (sym e)),
    )

-- a call of a kind that changes nothing is what it answers
pub read_only : (x : Index) (c : Cursor) (out : List ℕ) (k : Call) (u : Kind) → kind_number u ≡ k.kind
    → u ≢ Open → u ≢ Push → u ≢ GetRange → u ≢ Output → u ≢ Iter → u ≢ Step → played x c out (reply_rule x k) ≡ replay_rule x c out k
unfolding read_rule replay_rule
read_only x c out k Open e a b d f g h = absurd (a refl)
read_only x c out k Push e a b d f g h = absurd (b refl)
read_only x c out k Length e a b d f g h = rw (sym e)
read_only x c out k Size e a b d f g h = rw (sym e)
read_only x c out k Get e a b d f g h = rw (sym e)
read_only x c out k GetRange e a b d f g h = absurd (d refl)
read_only x c out k Output e a b d f g h = absurd (f refl)
read_only x c out k Iter e a b d f g h = absurd (g refl)
read_only x c out k Step e a b d f g h = absurd (h refl)
read_only x c out k TargetRange e a b d f g h = rw (sym e)
read_only x c out k BisectLeft e a b d f g h = rw (sym e)
read_only x c out k BisectRangeLeft e a b d f g h = rw (sym e)
read_only x c out k Entry e a b d f g h = rw (sym e)
