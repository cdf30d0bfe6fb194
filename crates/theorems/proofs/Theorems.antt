-- What people sign on: every theorem over the rules, in one file. Nothing is assumed of the lent tables, and values may fall unless a theorem says otherwise.
use Prim.Native.Nat.{ℕ, ◌+◌, ◌-◌, ◌*◌, ◌/◌, ◌^◌, ◌≤◌, ◌<◌, min, max}
use mathlib.Core.List.{List, ◌++◌}
use mathlib.Core.Path.{◌≡◌, refl}
use mathlib.Core.Logic.{◌↔◌}
use native.Mathlib.Omega.{arith}
use lib.ListN.{length, get_or, take, drop}
use Rattle.std.specs.Prelude.{Err}
use Rattle.std.specs.declared.result.Result.{Result}
use Rattle.std.specs.declared.option.Option.{Option}
use Rattle.rules.specs.declared.State.{State}
use Rattle.rules.specs.declared.Cursor.{Cursor}
use Rattle.rules.specs.declared.Refusal.{Refusal}
use Rattle.rules.specs.declared.Stayed.{Stayed}
use Rattle.rules.specs.declared.Target.{Target}
use Rattle.rules.specs.Words.{Answer, value, refused}
use Rattle.rules.specs.Record.{Index, length_of, minimum_of, segments_of, widths_of, used_of, last_of, start, base, width, room_of, open_rule}
use Rattle.rules.specs.Push.{push_rule, length_rule, size_rule}
use Rattle.rules.specs.Reading.{starts_up_to, get_rule, reads, ranged, range_rule, cursor, iter_rule, stays, step_rule, run_count_rule, run_value_rule, span, target_rule, bases_up_to, bisect_rule, bisect_range_rule}
use Rattle.rules.specs.Audit.{well_formed, deltas, audit_rule, A, flaw, verdict_of}
use Rattle.rules.specs.Run.{fresh, run, accepted, how_many, NeverFalls}
use Rattle.rules.specs.Refusals.{number_of, answer_of, target_of, step_of}
use Rattle.demands.specs.Terms.{Small, RoomFor, Walks, bytes_of}
use Rattle.demands.proofs.WellFormed.{audit_well, well_audit}
use Rattle.demands.proofs.Bounds.{counts_hold_lem, segments_half, last_above, segments_spread}
use Rattle.demands.proofs.Run.{Keeps, fresh_keeps, run_keeps, minimum_kept}
use Rattle.demands.proofs.Search.{upto_last}
use Rattle.demands.proofs.Get.{get_kept}
use Rattle.demands.proofs.Bisect.{bisect_counts}
use Rattle.demands.proofs.Ranges.{reads_kept, range_kept, iter_kept, target_kept, target_last, bisect_range_counts}
use Rattle.demands.proofs.Walks.{walk_reads, reads_walk, walk_range}
use Rattle.demands.proofs.DeltaRun.{run_count, run_value}
use Rattle.demands.proofs.Room.{accepted_most, refused_most, refused_below}
use Rattle.demands.proofs.Undamaged.{not_ten, get_undamaged, range_undamaged, step_undamaged, target_undamaged, bisect_undamaged, bisect_range_undamaged}
use Rattle.promises.specs.Sentences.{Sentence, Given, Exactly}
use Rattle.promises.specs.Table.{CountsRule, open_table, push_table, counts_table, get_table, range_table, iter_table, target_table, bisect_table, bisect_range_table, run_count_table, run_value_table}
use Rattle.promises.specs.Steps.{StepExactly}
use Rattle.promises.specs.Audited.{AuditExactly}
use Rattle.promises.proofs.Deciding.{exactly}
use Rattle.promises.proofs.Reading.{get_decided, range_decided, iter_decided, target_decided, bisect_decided, bisect_range_decided, open_decided, length_decided, size_decided, run_count_decided, run_value_decided}
use Rattle.promises.proofs.Push.{push_decided}
use Rattle.promises.proofs.Steps.{step_decided}
use Rattle.promises.proofs.Audited.{audit_decided, audit_counts}
use Rattle.promises.specs.Outcomes.{One, PushLeft, push_says, push_unchanged, RangeLeft, range_says, range_unchanged, step_unchanged, NextLeft, next_says, next_rule, next_unchanged}
use Rattle.promises.specs.Kept.{Appended, Does, Filled}
use Rattle.promises.proofs.One.{one_answer, one_pushed, one_ranged, one_targeted, one_stepped, one_walked, one_judged}
use Rattle.promises.proofs.Stays as stays-laws
use Rattle.promises.proofs.Answers as code

-- A RUN: a fresh index with m 1 to 8 over any lent tables, and any u64 values pushed one after another, refused ones included
module _ (m : ℕ) (starts bases offsets widths bytes : List ℕ) (m-least : 1 ≤ m) (m-most : m ≤ 8) (us : List ℕ) (small : Small us) where
  -- the fresh index
  abbrev pub new : Index
  new = fresh m starts bases offsets widths bytes

  -- the index after the run
  abbrev pub made : Index
  made = run new us

  -- the accepted values
  abbrev pub taken : List ℕ
  taken = accepted new us

  -- how many values were accepted
  abbrev pub n : ℕ
  n = length taken

  -- the index is well formed and holds the accepted values
  kept : Keeps made taken
  kept = run_keeps us new _ small (fresh_keeps m starts bases offsets widths bytes m-least m-most)

  -- the audit passes
  pub run_audited : audit_rule made ≡ well_formed
  run_audited = well_audit made kept.well

  -- the minimum width is still m
  pub run_minimum : minimum_of made ≡ m
  run_minimum = minimum_kept us new

  -- segments <= (n + 1) / 2
  pub run_half : segments_of made ≤ (n + 1) / 2
  run_half = let len = kept.many in let h = segments_half made kept.well in omega arith

  -- from the first value on, the last base is not below the first
  pub run_bases : 1 ≤ n → base made 0 ≤ base made (last_of made)
  run_bases h = let len = kept.many in last_above made kept.well (omega arith)

  -- and segments <= 1 + (last base - first base) / 256^m
  pub run_spread : 1 ≤ n → segments_of made ≤ 1 + (base made (last_of made) - base made 0) / 256 ^ m
  run_spread h = let len = kept.many in rw run_minimum at (segments_spread made kept.well (omega arith))

  -- ROOM for k values, fewer than k accepted so far: the next push, of whatever value, is refused only because its value is below the base
  pub room_below : (k : ℕ) → RoomFor (room_of new) k → n < k → (v e : ℕ) → (push_rule made v).answer ≡ refused e → e ≡ 1
  room_below k r l v e q = let len = kept.many in refused_below new us k v e kept.well r (omega arith) q

  -- so none of the first k pushes is refused 2, nor 3, nor 4
  pub room_enough : (k : ℕ) → RoomFor (room_of new) k → length us < k → (v : ℕ)
      → ((push_rule made v).answer ≡ refused 2 → ⊥) × ((push_rule made v).answer ≡ refused 3 → ⊥) × ((push_rule made v).answer ≡ refused 4 → ⊥)
  room_enough k r l v =
      let most = accepted_most us new in
      let one = room_below k r (omega arith) v in
      ((λ q. let e = one 2 q in omega arith), (λ q. let e = one 3 q in omega arith), (λ q. let e = one 4 q in omega arith))

  -- ROUND TRIP: length is n
  pub length_accepted : length_rule made ≡ value n
  unfolding length_rule
  length_accepted = rw (counts_hold_lem made kept.well, kept.many)

  -- size is 24 x segments + widths + used
  pub size_accepted : size_rule made ≡ value (24 * segments_of made + widths_of made + used_of made)
  unfolding size_rule
  size_accepted = rw (counts_hold_lem made kept.well)

  -- get(i) is the i-th accepted value
  pub get_accepted : (i : ℕ) → i < n → get_rule made i ≡ value (get_or taken i 0)
  get_accepted = get_kept made taken kept

  -- get_range(a..b) writes the accepted values a to b - 1, in order, from the output's first entry; the rest of the output stays
  pub range_accepted : (a b : ℕ) (out : List ℕ) → a ≤ b → b ≤ n → b - a ≤ length out
      → range_rule made a b out ≡ ranged (value (b - a)) (take (b - a) (drop a taken) ++ drop (b - a) out)
  range_accepted = range_kept made taken kept

  -- opening a walk over a..b is not refused
  pub iter_accepted : (a b : ℕ) → a ≤ b → b ≤ n → iter_rule made a b ≡ value (cursor a b)
  iter_accepted = iter_kept made taken kept

  -- and the walk gives the accepted values a to b - 1, in order, then done
  pub walk_accepted : (a b : ℕ) → a ≤ b → b ≤ n → Walks made (cursor a b) (take (b - a) (drop a taken))
  walk_accepted a b h l = reads_walk made (b - a) a b _ refl (reads_kept made taken kept (b - a) a (omega arith))

  -- target_range(i, t) is from the i-th accepted value to the next one, or to t if that is smaller
  pub target_accepted : (i t : ℕ) → i + 1 < n → target_rule made i t ≡ value (span (get_or taken i 0) (min (get_or taken (i + 1) 0) t))
  target_accepted = target_kept made taken kept

  -- and at the last one it is to t
  pub target_accepted_last : (i t : ℕ) → i + 1 ≡ n → target_rule made i t ≡ value (span (get_or taken i 0) t)
  target_accepted_last = target_last made taken kept

  -- BISECT: if the accepted values never fall, bisect_left(v) is how many of them are below v
  pub bisect_accepted : NeverFalls taken → (v : ℕ) → bisect_rule made v ≡ value (how_many v taken)
  bisect_accepted = bisect_counts made taken kept

  -- and bisect_range_left(a..b, v) is that number raised to at least a and lowered to at most b
  pub bisect_range_accepted : NeverFalls taken → (a b v : ℕ) → a ≤ b → b ≤ n
      → bisect_range_rule made a b v ≡ value (min b (max a (how_many v taken)))
  bisect_range_accepted = bisect_range_counts made taken kept

-- AUDITED tables, however they came to be: no read answers 10, and no push does
module _ (x : Index) (audited : audit_rule x ≡ well_formed) where
  -- get
  pub get_never_10 : (p : ℕ) → get_rule x p ≡ refused 10 → ⊥
  get_never_10 p = not_ten (get_rule x p) (get_undamaged x (audit_well x audited) p)

  -- get_range
  pub range_never_10 : (a b : ℕ) (out : List ℕ) → (range_rule x a b out).answer ≡ refused 10 → ⊥
  range_never_10 a b out = not_ten (range_rule x a b out).answer (range_undamaged x (audit_well x audited) a b out)

  -- a step of a walk, from any cursor
  pub step_never_10 : (c d : Cursor) → step_rule x c ≡ stays 10 d → ⊥
  step_never_10 = step_undamaged x (audit_well x audited)

  -- target_range
  pub target_never_10 : (p t : ℕ) → target_rule x p t ≡ refused 10 → ⊥
  target_never_10 p t = not_ten (target_rule x p t) (target_undamaged x (audit_well x audited) p t)

  -- bisect_left
  pub bisect_never_10 : (v : ℕ) → bisect_rule x v ≡ refused 10 → ⊥
  bisect_never_10 v = not_ten (bisect_rule x v) (bisect_undamaged x (audit_well x audited) v)

  -- bisect_range_left
  pub bisect_range_never_10 : (a b v : ℕ) → bisect_range_rule x a b v ≡ refused 10 → ⊥
  bisect_range_never_10 a b v = not_ten (bisect_range_rule x a b v) (bisect_range_undamaged x (audit_well x audited) a b v)

  -- push, of any value
  pub push_never_10 : (v : ℕ) → (push_rule x v).answer ≡ refused 10 → ⊥
  push_never_10 v q = let e = refused_most x (audit_well x audited) v 10 q in omega arith

  -- the delta run over the bytes of a segment with a width counts its deltas
  pub delta_run_count : (k : ℕ) → k < widths_of x → run_count_rule (bytes_of x k) (width x k) ≡ value (deltas x k)
  delta_run_count = run_count x (audit_well x audited)

  -- and its i-th value is what get answers at the start + 1 + i
  pub delta_run_value : (k : ℕ) → k < widths_of x → (i : ℕ) → i < deltas x k
      → run_value_rule (bytes_of x k) (base x k) (width x k) i ≡ get_rule x (start x k + 1 + i)
  delta_run_value = run_value x (audit_well x audited)

-- ANY INDEX and tables, sorted or not
module _ (x : Index) where
  -- a walk over a..b without refusal gives b - a values, those of get(a) to get(b - 1) in order, then done
  pub walk_gives : (a b : ℕ) (vs : List ℕ) → Walks x (cursor a b) vs → (reads x a (b - a) ≡ value vs) × (length vs ≡ b - a)
  walk_gives a b vs = walk_reads x vs a b

  -- and where get(a) to get(b - 1) are values, there is that walk
  pub walk_there : (a b : ℕ) (vs : List ℕ) → reads x a (b - a) ≡ value vs → Walks x (cursor a b) vs
  walk_there a b vs = reads_walk x (b - a) a b vs refl

  -- and a walk that opens over a..b and meets no refusal gives what get_range(a..b) writes
  pub walk_as_range : (a b : ℕ) (c : Cursor) (vs out : List ℕ) → iter_rule x a b ≡ value c → Walks x c vs → b - a ≤ length out
      → range_rule x a b out ≡ ranged (value (b - a)) (vs ++ drop (b - a) out)
  walk_as_range = walk_range x

  -- after the halving over starts, starts[s] is never above p: no input meets that test of get
  pub start_not_above : (p : ℕ) → 0 < starts_up_to x p → start x (starts_up_to x p - 1) ≤ p
  unfolding starts_up_to
  start_not_above = upto_last x.starts (segments_of x)

  -- after the halving over bases, bases[s] is never above v: no input meets that test of bisect_left
  pub base_not_above : (v : ℕ) → 0 < bases_up_to x v → base x (bases_up_to x v - 1) ≤ v
  unfolding bases_up_to
  base_not_above = upto_last x.bases (segments_of x)

-- EXACTLY WHEN: a refusal's number if and only if its sentence of 01's table holds and none before it in 01's order does; otherwise a value.
-- At any index, any tables, any numbers. Opening: 11
pub open_exactly : (m : ℕ) → Exactly (open_table m) (open_rule m)
open_exactly m = exactly (open_decided m)

-- push: 9, then 10, 1, 2, 3, 4
pub push_exactly : (x : Index) (v : ℕ) → Exactly (push_table x v) (push_rule x v).answer
push_exactly x v = exactly (push_decided x v)

-- length: 9
pub length_exactly : (x : Index) → Exactly (counts_table x) (length_rule x)
length_exactly x = exactly (length_decided x)

-- size: 9
pub size_exactly : (x : Index) → Exactly (counts_table x) (size_rule x)
size_exactly x = exactly (size_decided x)

-- get: 9, then 5, 10
pub get_exactly : (x : Index) (p : ℕ) → Exactly (get_table x p) (get_rule x p)
get_exactly x p = exactly (get_decided x p)

-- get_range: 9, then 6, 7, 8, 10
pub range_exactly : (x : Index) (a b : ℕ) (out : List ℕ) → Exactly (range_table x a b out) (range_rule x a b out).answer
range_exactly x a b out = exactly (range_decided x a b out)

-- opening a cursor: 9, then 6, 7
pub iter_exactly : (x : Index) (a b : ℕ) → Exactly (iter_table x a b) (iter_rule x a b)
iter_exactly x a b = exactly (iter_decided x a b)

-- a step: done first, then as get(next)
pub step_exactly : (x : Index) (c : Cursor) → StepExactly x c (step_rule x c)
step_exactly x c = step_decided x c

-- a delta run's count: 10
pub run_count_exactly : (bytes : List ℕ) (w : ℕ) → Exactly (run_count_table w) (run_count_rule bytes w)
run_count_exactly bytes w = exactly (run_count_decided bytes w)

-- a delta run's i-th value: 10, then 5, then 10
pub run_value_exactly : (bytes : List ℕ) (base w i : ℕ) → Exactly (run_value_table bytes base w i) (run_value_rule bytes base w i)
run_value_exactly bytes base w i = exactly (run_value_decided bytes base w i)

-- target_range: 9, then 5, 10
pub target_exactly : (x : Index) (p t : ℕ) → Exactly (target_table x p) (target_rule x p t)
target_exactly x p t = exactly (target_decided x p t)

-- bisect_left: 9, then 10
pub bisect_exactly : (x : Index) (v : ℕ) → Exactly (bisect_table x v) (bisect_rule x v)
bisect_exactly x v = exactly (bisect_decided x v)

-- bisect_range_left: 9, then 6, 7, 10
pub bisect_range_exactly : (x : Index) (a b v : ℕ) → Exactly (bisect_range_table x a b v) (bisect_range_rule x a b v)
bisect_range_exactly x a b v = exactly (bisect_range_decided x a b v)

-- the audit: well formed, or the first rule that fails and its segment
pub audit_exactly : (x : Index) → AuditExactly x (audit_rule x)
audit_exactly x = audit_decided x

-- the audit answers A where the others answer 9, with segment 0
pub audit_a_exactly : (x : Index) (k : ℕ) → (audit_rule x ≡ flaw A k) ↔ ((CountsRule x → ⊥) × (k ≡ 0))
audit_a_exactly x k = audit_counts x k

-- THE CODE REFUSES JUST THEN: whatever meets a promise is the refusal e if and only if the table gives e's number
module _ (e : Refusal) where
  -- opening
  pub open_refuses : (m : ℕ) (c : Result State Refusal) → answer_of c ≡ open_rule m → (c ≡ Err e) ↔ Given (open_table m) (number_of e)
  open_refuses m = code.answer_refuses e (open_exactly m)

  -- a push, with the state and every entry of the five tables as they were
  pub push_refuses : (x : Index) (v : ℕ) (c : PushLeft) → push_says c ≡ push_rule x v → (c ≡ push_unchanged x e) ↔ Given (push_table x v) (number_of e)
  push_refuses x v = code.push_refuses x v e

  -- a call for one number: length, size, get, a bisect, a delta run, each by its theorem above
  pub number_refuses : {t : List Sentence} {rule : Answer ℕ} → Exactly t rule → (c : Result ℕ Refusal) → answer_of c ≡ rule → (c ≡ Err e) ↔ Given t (number_of e)
  number_refuses = code.answer_refuses e

  -- get_range, with every entry of the output as it was
  pub range_refuses : (x : Index) (a b : ℕ) (out : List ℕ) (c : RangeLeft) → range_says c ≡ range_rule x a b out
      → (c ≡ range_unchanged out e) ↔ Given (range_table x a b out) (number_of e)
  range_refuses x a b out = code.range_refuses x a b out e

  -- opening a cursor
  pub iter_refuses : (x : Index) (a b : ℕ) (c : Result Cursor Refusal) → answer_of c ≡ iter_rule x a b → (c ≡ Err e) ↔ Given (iter_table x a b) (number_of e)
  iter_refuses x a b = code.answer_refuses e (iter_exactly x a b)

  -- a step, with the cursor as it was
  pub step_refuses : (x : Index) (c : Cursor) (r : Result (Option (ℕ × Cursor)) Stayed) → step_of r ≡ step_rule x c
      → (r ≡ Err (step_unchanged c e)) ↔ ((c.next < c.end) × Given (get_table x c.next) (number_of e))
  step_refuses x c = code.step_refuses x c e

  -- a step of a lent cursor, which is left as it was
  pub next_refuses : (x : Index) (c : Cursor) (n : NextLeft) → next_says n ≡ next_rule x c
      → (n ≡ next_unchanged c e) ↔ ((c.next < c.end) × Given (get_table x c.next) (number_of e))
  next_refuses x c = code.next_refuses x c e

  -- target_range
  pub target_refuses : (x : Index) (p t : ℕ) (c : Result Target Refusal) → target_of c ≡ target_rule x p t → (c ≡ Err e) ↔ Given (target_table x p) (number_of e)
  target_refuses x p t = code.target_refuses e (target_exactly x p t)

-- NO SECOND ANSWER: two outcomes of the code that both meet a promise are equal, at any input. Opening
pub one_open : (m : ℕ) → One answer_of (open_rule m)
one_open m = one_answer (open_rule m)

-- a push: the answer with its state, and every entry of the five tables
pub one_push : (x : Index) (v : ℕ) → One push_says (push_rule x v)
one_push x v = one_pushed (push_rule x v)

-- length
pub one_length : (x : Index) → One answer_of (length_rule x)
one_length x = one_answer (length_rule x)

-- size
pub one_size : (x : Index) → One answer_of (size_rule x)
one_size x = one_answer (size_rule x)

-- get
pub one_get : (x : Index) (p : ℕ) → One answer_of (get_rule x p)
one_get x p = one_answer (get_rule x p)

-- get_range: the answer and every entry of the output
pub one_range : (x : Index) (a b : ℕ) (out : List ℕ) → One range_says (range_rule x a b out)
one_range x a b out = one_ranged (range_rule x a b out)

-- opening a cursor
pub one_iter : (x : Index) (a b : ℕ) → One answer_of (iter_rule x a b)
one_iter x a b = one_answer (iter_rule x a b)

-- a step: the answer with its cursor
pub one_step : (x : Index) (c : Cursor) → One step_of (step_rule x c)
one_step x c = one_stepped (step_rule x c)

-- a step of a lent cursor: its answer, and the cursor as it is left
pub one_next : (x : Index) (c : Cursor) → One next_says (next_rule x c)
one_next x c = one_walked (next_rule x c)

-- a delta run's count
pub one_run_count : (bytes : List ℕ) (w : ℕ) → One answer_of (run_count_rule bytes w)
one_run_count bytes w = one_answer (run_count_rule bytes w)

-- a delta run's i-th value
pub one_run_value : (bytes : List ℕ) (base w i : ℕ) → One answer_of (run_value_rule bytes base w i)
one_run_value bytes base w i = one_answer (run_value_rule bytes base w i)

-- target_range
pub one_target : (x : Index) (p t : ℕ) → One target_of (target_rule x p t)
one_target x p t = one_targeted (target_rule x p t)

-- bisect_left
pub one_bisect : (x : Index) (v : ℕ) → One answer_of (bisect_rule x v)
one_bisect x v = one_answer (bisect_rule x v)

-- bisect_range_left
pub one_bisect_range : (x : Index) (a b v : ℕ) → One answer_of (bisect_range_rule x a b v)
one_bisect_range x a b v = one_answer (bisect_range_rule x a b v)

-- the audit
pub one_audit : (x : Index) → One verdict_of (audit_rule x)
one_audit x = one_judged (audit_rule x)

-- NOTHING ELSE MOVED. A refused push leaves the state and every entry of the five tables
pub refused_push_leaves : (x : Index) (v e : ℕ) → (push_rule x v).answer ≡ refused e → (push_rule x v).left ≡ x
refused_push_leaves = stays-laws.push_refused

-- an accepted push answers the old length
pub push_answers_length : (x : Index) (v p : ℕ) → (push_rule x v).answer ≡ value p → p ≡ length_of x
push_answers_length = stays-laws.push_answers

-- it does what was due: a new segment, a first delta, or one delta more
pub push_does_due : (x : Index) (v p : ℕ) → (push_rule x v).answer ≡ value p → Does x v (push_rule x v).left
push_does_due = stays-laws.push_does

-- and leaves every entry but those that it appends
pub push_only_appends : (x : Index) (v p : ℕ) → (push_rule x v).answer ≡ value p → Appended x (push_rule x v).left
push_only_appends = stays-laws.push_appends

-- a refused get_range leaves every entry of the output
pub refused_range_leaves : (x : Index) (a b : ℕ) (out : List ℕ) (e : ℕ) → (range_rule x a b out).answer ≡ refused e → (range_rule x a b out).left ≡ out
refused_range_leaves = stays-laws.range_refused

-- one that answers leaves the output from b - a on
pub range_only_fills : (x : Index) (a b : ℕ) (out : List ℕ) (n : ℕ) → (range_rule x a b out).answer ≡ value n → Filled x a b out n (range_rule x a b out).left
range_only_fills = stays-laws.range_fills

-- a step that refuses leaves the cursor
pub refused_step_stays : (x : Index) (c d : Cursor) (e : ℕ) → step_rule x c ≡ stays e d → d ≡ c
refused_step_stays = stays-laws.step_refused
