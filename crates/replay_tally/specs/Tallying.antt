-- A list of records replayed: what a record says, how its answer is held to the recorded one, and what is counted.
use Rattle.std.specs.Prelude.{ℕ, ◌+◌, ◌-◌, ◌*◌, ◌^◌, Bool, true, false, List, [], ◌∷◌, Some, None, ltb, eqb}
use Rattle.std.specs.declared.option.Option.{Option}
use Rattle.rules.specs.declared.Cursor.{Cursor}
use Rattle.rules.specs.Words.{when, ◌≡?◌, when_all}
use Rattle.rules.specs.Record.{Index}
use Rattle.rules.specs.Push.{delta_at}
use Rattle.rules.specs.Refusals.{index_in}
use Rattle.replay.specs.declared.Call.{Call}
use Rattle.replay.specs.declared.Player.{Player}
use Rattle.replay.specs.declared.replies.Reply.{Reply}
use Rattle.replay.specs.Replies.{reply}
use Rattle.replay.specs.Replaying.{Played, replay_rule}
use Rattle.replay_tally.specs.declared.Difference.{Difference}
use Rattle.replay_tally.specs.declared.Tally.{Tally}

-- word i of a record: eight bytes, least significant first
abbrev pub word_of : List ℕ → ℕ → ℕ
word_of w i = delta_at w (8 * i) 8

-- the call that a record names
abbrev pub call_of : List ℕ → Call
call_of r = record { kind = word_of r 0; a = word_of r 1; b = word_of r 2; c = word_of r 3 }

-- the answer that a record says is due
abbrev pub due_of : List ℕ → Reply
due_of r = reply (word_of r 4) (word_of r 5) (word_of r 6)

-- whether two answers have the same numbers
unfoldable pub same_reply : Reply → Reply → Bool
same_reply x y = when_all (x.answered ≡? y.answered ∷ x.r ≡? y.r ∷ x.s ≡? y.s ∷ []) true false

-- one more, up to the largest number of 64 bits
unfoldable pub one_more : ℕ → ℕ
one_more n = when (ltb n (2 ^ 64 - 1)) (n + 1) n

-- a difference: the number of its record, its kind, the answer that is due and the one that was found
abbrev pub difference : ℕ → ℕ → Reply → Reply → Difference
difference number kind due found = record { number = number; kind = kind; due = due; found = found }

-- what has been counted: records, those that differ, those of no known kind, the bytes of a tail; and the first difference
abbrev pub tally : ℕ → ℕ → ℕ → ℕ → Option Difference → Tally
tally records differ unknown tail first = record { records = records; differ = differ; unknown = unknown; tail = tail; first = first }

-- the first difference there was, or else this one
abbrev pub first_of : Option Difference → Difference → Option Difference
first_of None new = Some new
first_of (Some old) new = Some old

-- one more of no known kind, if that was found
unfoldable pub unknown_after : ℕ → Reply → ℕ
unknown_after n found = when (eqb found.answered 2) (one_more n) n

-- one record more: it differs exactly where an answer's number does
unfoldable pub counted : Tally → ℕ → Reply → Reply → Tally
counted t kind due found =
    when (same_reply due found)
    (tally (one_more t.records) t.differ (unknown_after t.unknown found) t.tail t.first)
    (tally (one_more t.records) (one_more t.differ) (unknown_after t.unknown found) t.tail
    (first_of t.first (difference (one_more t.records) kind due found)))

-- a replay on its way: index, cursor and output as the calls so far left them, and what has been counted
pub record Going : Type 0 where
  pub index : Index
  pub cursor : Cursor
  pub out : List ℕ
  pub tally : Tally

-- these four together
abbrev pub going : Index → Cursor → List ℕ → Tally → Going
going x c out t = record { index = x; cursor = c; out = out; tally = t }

-- what a player holds, and what has been counted
abbrev pub going_by : Player → Tally → Going
going_by p t = going (index_in p.index) p.cursor p.out.now t

-- after a call: what it left, and its answer counted
abbrev pub tallied : Tally → List ℕ → Played → Going
tallied t w p = going p.index p.cursor p.out (counted t (call_of w).kind (due_of w) p.reply)

-- the tally with a tail of n bytes
abbrev pub with_tail : Tally → ℕ → Tally
with_tail t n = tally t.records t.differ t.unknown n t.first

-- a record of which n bytes came: fewer than 64 are a tail; otherwise its call by the rules, counted
unfoldable pub take_rule : Going → List ℕ → ℕ → Going
take_rule g w n =
    when (ltb n 64) (going g.index g.cursor g.out (with_tail g.tally n))
    (tallied g.tally w (replay_rule g.index g.cursor g.out (call_of w)))
