-- What a recorded call answers by the rules, in a record's numbers, and what it leaves for the next call.
use Rattle.std.specs.Prelude.{ℕ, List, ◌≡◌, ltb, eqb, length, get_or}
use Rattle.rules.specs.declared.State.{State}
use Rattle.rules.specs.declared.Cursor.{Cursor}
use Rattle.rules.specs.Words.{when, unless, Answer, value, refused}
use Rattle.rules.specs.Record.{Index, index, segments_of, widths_of, used_of, open_rule}
use Rattle.rules.specs.Push.{Outcome, push_rule, length_rule, size_rule}
use Rattle.rules.specs.Reading.{Ranged, Stepped, done, gave, stays, get_rule, range_rule, iter_rule, step_rule, target_rule, bisect_rule, bisect_range_rule}
use Rattle.rules.specs.Refusals.{index_in, SameTables}
use Rattle.replay.specs.declared.Call.{Call}
use Rattle.replay.specs.declared.replies.Reply.{Reply}
use Rattle.replay.specs.Replies.{reply, number_reply, span_reply, unknown_reply}
use Rattle.replay.specs.declared.Player.{Player}

-- a state, a cursor and an answer
pub record Replayed : Type 0 where
  pub state : State
  pub cursor : Cursor
  pub reply : Reply

-- these three together
abbrev pub replayed : State → Cursor → Reply → Replayed
replayed s c y = record { state = s; cursor = c; reply = y }

-- after opening an index: its fresh state, or the one there was
abbrev pub after_open : State → Cursor → Answer State → Replayed
after_open s c (value fresh) = replayed fresh c (reply 1 0 0)
after_open s c (refused e) = replayed s c (reply 0 e 0)

-- after opening a walk: its cursor, or the one there was
abbrev pub after_iter : State → Cursor → Answer Cursor → Replayed
after_iter s c (value d) = replayed s d (reply 1 0 0)
after_iter s c (refused e) = replayed s c (reply 0 e 0)

-- after a step: the cursor that it left; the second number says whether the walk was done
abbrev pub after_step : State → Cursor → Stepped → Replayed
after_step s c done = replayed s c (reply 1 0 1)
after_step s c (gave v d) = replayed s d (reply 1 v 0)
after_step s c (stays e d) = replayed s d (reply 0 e 0)

-- entry k of a table of which n entries are in use
unfoldable pub entry_rule : List ℕ → ℕ → ℕ → Reply
entry_rule table n k =
    unless (ltb k n) (reply 0 0 0)
    (unless (ltb k (length table)) (reply 0 0 0)
    (reply 1 (get_or table k 0) 0))

-- entry k of a table by the table's number
unfoldable pub table_rule : Index → ℕ → ℕ → Reply
table_rule x t k =
    when (eqb t 0) (entry_rule x.starts (segments_of x) k)
    (when (eqb t 1) (entry_rule x.bases (segments_of x) k)
    (when (eqb t 2) (entry_rule x.offsets (segments_of x) k)
    (when (eqb t 3) (entry_rule x.widths (widths_of x) k)
    (when (eqb t 4) (entry_rule x.bytes (used_of x) k)
    unknown_reply))))

-- a search of the index, or a look at one entry of its tables, by its kind
unfoldable pub find_rule : Index → Call → Reply
find_rule x k =
    when (eqb k.kind 11) (number_reply (bisect_rule x k.a))
    (when (eqb k.kind 12) (number_reply (bisect_range_rule x k.a k.b k.c))
    (when (eqb k.kind 13) (table_rule x k.a k.b)
    unknown_reply))

-- a read of the index alone, by its kind
unfoldable pub reply_rule : Index → Call → Reply
reply_rule x k =
    when (eqb k.kind 3) (number_reply (length_rule x))
    (when (eqb k.kind 4) (number_reply (size_rule x))
    (when (eqb k.kind 5) (number_reply (get_rule x k.a))
    (when (eqb k.kind 10) (span_reply (target_rule x k.a k.b))
    (find_rule x k))))

-- a call that changes neither the index nor the output, by its kind
unfoldable pub read_rule : Index → Cursor → List ℕ → Call → Replayed
read_rule x c out k =
    when (eqb k.kind 7) (replayed x.state c (entry_rule out (length out) k.a))
    (when (eqb k.kind 8) (after_iter x.state c (iter_rule x k.a k.b))
    (when (eqb k.kind 9) (after_step x.state c (step_rule x c))
    (replayed x.state c (reply_rule x k))))

-- what a call leaves, the index, the cursor and the output; and what it answers
pub record Played : Type 0 where
  pub index : Index
  pub cursor : Cursor
  pub out : List ℕ
  pub reply : Reply

-- these four together
abbrev pub played : Index → Cursor → List ℕ → Reply → Played
played x c out y = record { index = x; cursor = c; out = out; reply = y }

-- a player still holds what it was lent
abbrev pub SameLent : (new old : Player) → Type 0
SameLent new old = SameTables new.index old.index × (new.out.ghost_name ≡ old.out.ghost_name)

-- what a player holds, and an answer
abbrev pub played_by : Player → Reply → Played
played_by p y = played (index_in p.index) p.cursor p.out.now y

-- the state and the cursor as a call left them, over an index whose tables and output stay
abbrev pub unmoved : Index → List ℕ → Replayed → Played
unmoved x out r = played (index r.state x.starts x.bases x.offsets x.widths x.bytes) r.cursor out r.reply

-- a push leaves its index
abbrev pub push_played : Cursor → List ℕ → Outcome → Played
push_played c out o = played o.left c out (number_reply o.answer)

-- a get_range leaves its output
abbrev pub range_played : Index → Cursor → Ranged → Played
range_played x c r = played x c r.left (number_reply r.answer)

-- a call on an index, with the cursor and the output that the calls before it left, by its kind
unfoldable pub replay_rule : Index → Cursor → List ℕ → Call → Played
replay_rule x c out k =
    when (eqb k.kind 1) (unmoved x out (after_open x.state c (open_rule k.a)))
    (when (eqb k.kind 2) (push_played c out (push_rule x k.a))
    (when (eqb k.kind 6) (range_played x c (range_rule x k.a k.b out))
    (unmoved x out (read_rule x c out k))))
