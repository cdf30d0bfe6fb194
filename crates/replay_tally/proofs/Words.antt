-- A whole record is its first 64 bytes: its call made and counted is the rule's.
use Prim.Native.Nat.{ℕ, zero, suc, ◌+◌, ◌≤◌}
use mathlib.Core.List.{List}
use mathlib.Core.Path.{◌≡◌, refl}
use native.Mathlib.Omega.{arith}
use lib.ListN.{take}
use Rattle.std.proofs.lemmas.List.{get_or-take}
use Rattle.rules.specs.Push.{delta_at}
use Rattle.replay.specs.declared.Call.{Call}
use Rattle.replay.specs.declared.Player.{Player}
use Rattle.replay.specs.declared.replies.Reply.{Reply}
use Rattle.replay.specs.Replaying.{Played, played_by}
use Rattle.replay_tally.specs.declared.Tally.{Tally}
use Rattle.replay_tally.specs.Tallying.{call_of, due_of, counted, going_by, tallied}

-- bytes within the first n are those of the first n
delta_front : (bytes : List ℕ) (n at w : ℕ) → at + w ≤ n → delta_at (take n bytes) at w ≡ delta_at bytes at w
unfolding delta_at
delta_front bytes n at zero h = refl
delta_front bytes n at (suc w) h = rw (get_or-take n bytes at 0 (omega arith), delta_front bytes n (suc at) w (omega arith))

-- so a record's words are those of the bytes that came
pub words_front : (bytes front : List ℕ) → front ≡ take 64 bytes → (call_of front ≡ call_of bytes) × (due_of front ≡ due_of bytes)
words_front bytes front e =
    let d = λ (at : ℕ) (h : at + 8 ≤ 64). delta_front bytes 64 at 8 h in
    rw e (rw (d 0 (omega arith), d 8 (omega arith), d 16 (omega arith), d 24 (omega arith)), rw (d 32 (omega arith), d 40 (omega arith), d 48 (omega arith)))

-- a call made and counted
pub call_counted : (t n : Tally) (w : List ℕ) (k : Call) (due y : Reply) (p : Player) (q : Played) → k ≡ call_of w → due ≡ due_of w → played_by p y ≡ q
    → n ≡ counted t k.kind due y → going_by p n ≡ tallied t w q
call_counted t n w k due y p q ek ed ep en = rw (en, ek, ed, ← ep)
