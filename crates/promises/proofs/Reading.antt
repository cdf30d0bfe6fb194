-- Every read keeps to its table: the rule's tests one after another, each against the sentence it stands for.
use Prim.Native.Nat.{ℕ, zero, suc, ◌+◌, ◌-◌, ◌*◌, ◌/◌, ◌^◌, ◌≤◌, ◌<◌, min, max}
use mathlib.Core.Bool.{true}
use mathlib.Core.List.{List, [], ◌∷◌, ◌++◌}
use mathlib.Core.Logic.{◌⊎◌, inl, inr, ⊎_elim}
use mathlib.Core.Path.{◌≡◌, refl}
use native.Mathlib.Omega.{arith}
use lib.Dec.{ltb, eqb}
use lib.ListN.{length}
use borrow.Author.Tests.{lt-ltb, ltb-true, ltb-false, eqb-true, eqb-false}
use Rattle.rules.specs.Words.{when, unless, Answer, value, refused, and_then, ◌≤?◌, ◌<?◌, unless_all}
use Rattle.rules.specs.Record.{Index, minimum_of, length_of, widths_of, used_of, start, base, offset, width, mark, width_tests, counts_hold, open_rule}
use Rattle.rules.specs.Push.{delta_at, length_rule, size_rule}
use Rattle.rules.specs.Reading.{run_count_rule, run_value_rule, damaged, delta_read, read_in, starts_up_to, get_rule, in_range, reads, written, range_rule, iter_rule, Span, span, target_end, target_rule, delta_search, bisect_in, bases_up_to, bisect_rule, bisect_range_rule}
use Rattle.laws.proofs.Tests.{by_test, when_case}
use Rattle.promises.specs.Sentences.{Sentence, ◌if◌}
use Rattle.promises.specs.Table.{Outside, counts, open_table, counts_table, run_count_table, run_value_table, position, ReadDamaged, GetDamaged, get_table, range_sentences, range_table, iter_table, target_table, SearchDamaged, BisectDamaged, bisect_table, bisect_range_table}
use Rattle.promises.proofs.Deciding.{Decided, none, pass, given, stop, go_on, reworded, then_decided, value_decided, by_lt, by_le, by_eq, by_all, or_else, or_outside, within, before_decided}
use Rattle.promises.proofs.CountsRule.{counts_rule, counts_broken}

-- 9 comes first
pub counts_first : {A : Type 0} (x : Index) {t : List Sentence} {a : Answer A} → (counts_hold x ≡ true → Decided t a)
    → Decided (counts x ∷ t) (unless (counts_hold x) (refused 9) a)
counts_first x {t} f =
    when_case (Decided (counts x ∷ t)) (counts_hold x)
    (λ e. go_on (λ broken. broken (counts_rule x e)) (f e))
    (λ e. stop ((counts_broken x).1 e))

-- length
pub length_decided : (x : Index) → Decided (counts_table x) (length_rule x)
unfolding length_rule
length_decided x = counts_first x (λ c. none tt)

-- size
pub size_decided : (x : Index) → Decided (counts_table x) (size_rule x)
unfolding size_rule
size_decided x = counts_first x (λ c. none tt)

-- a width within m to 8, or a refusal
pub width_first : {A : Type 0} (e m w : ℕ) {t : List Sentence} {a : Answer A} → (m ≤ w → w ≤ 8 → Decided t a)
    → Decided (e if (Outside m w) ∷ t) (unless_all (width_tests m w) (refused e) a)
width_first e m w f =
    by_all (width_tests m w)
    (λ g. go_on (within m w g.0 g.1.0) (f g.0 g.1.0))
    (λ never. stop (or_else m w (λ l. let over : w ≤ 8 → ⊥ = λ h. never (l, (h, tt)) in omega arith)))

-- opening an index
pub open_decided : (m : ℕ) → Decided (open_table m) (open_rule m)
unfolding open_rule
open_decided m = width_first 11 1 m (λ l h. none tt)

-- a delta run's count
pub run_count_decided : (bytes : List ℕ) (w : ℕ) → Decided (run_count_table w) (run_count_rule bytes w)
unfolding run_count_rule
run_count_decided bytes w = width_first 10 1 w (λ l h. none tt)

-- a delta run's i-th value
pub run_value_decided : (bytes : List ℕ) (base w i : ℕ) → Decided (run_value_table bytes base w i) (run_value_rule bytes base w i)
unfolding run_value_rule
run_value_decided bytes base w i =
    let sum = base + delta_at bytes (i * w) w in
    width_first 10 1 w (λ l h. by_all (i <? (length bytes / w) ∷ [])
    (λ f. go_on (λ over. omega arith)
    (by_all (sum <? (2 ^ 64) ∷ [])
    (λ g. pass (λ over. omega arith))
    (λ never. let over : sum < 2 ^ 64 → ⊥ = λ b. never (b, tt) in stop (omega arith))))
    (λ never. let past : i < length bytes / w → ⊥ = λ b. never (b, tt) in stop (omega arith)))

-- a delta added to its base: the width is outside m to 8, the bytes don't end within used, or the sum is above 2^64 - 1
delta_decided : (m used : ℕ) (bytes : List ℕ) (base offset i w : ℕ)
    → Decided (10 if (Outside m w ⊎ (used < offset + i * w + w) ⊎ (2 ^ 64 - 1 < base + delta_at bytes (offset + i * w) w)) ∷ [])
    (delta_read m used bytes base offset i w)
unfolding delta_read
delta_decided m used bytes base offset i w =
    let end = offset + i * w + w in let sum = base + delta_at bytes (offset + i * w) w in
    by_all (m ≤? w ∷ w ≤? 8 ∷ end ≤? used ∷ sum <? (2 ^ 64) ∷ [])
    (λ f. pass (⊎_elim (within m w f.0 f.1.0) (⊎_elim (λ c. omega arith) (λ c. omega arith))))
    (λ never. stop (or_outside m w (λ a b. or_else end used (λ c.
    let over : sum < 2 ^ 64 → ⊥ = λ d. never (a, (b, (c, (d, tt)))) in omega arith))))

-- position p read in segment s
read_decided : (x : Index) (s p : ℕ) → Decided (10 if (ReadDamaged x s p) ∷ []) (read_in x s p)
unfolding read_in
read_decided x s p =
    by_lt p (start x s) (λ l. stop (inl l))
    (λ l. by_eq p (start x s) (λ e. pass (⊎_elim (λ b. omega arith) (λ b. omega arith)))
    (λ e. let past : start x s < p = omega arith in
    by_lt s (widths_of x)
    (λ there. reworded
    (λ d. inr (past, inr d))
    (⊎_elim (λ b. absurd (omega arith)) (λ b. ⊎_elim (λ c. absurd (omega arith)) (λ d. d) b.1))
    (delta_decided (minimum_of x) (used_of x) x.bytes (base x s) (offset x s) (p - start x s - 1) (width x s)))
    (λ gone. stop (inr (past, inl gone)))))

-- position p, wherever halving finds it
found_decided : (x : Index) (p : ℕ) → Decided (10 if (GetDamaged x p) ∷ []) (when (eqb (starts_up_to x p) 0) damaged (read_in x (starts_up_to x p - 1) p))
found_decided x p =
    by_eq (starts_up_to x p) 0 (λ e. stop (inl e))
    (λ e. reworded inr (⊎_elim (λ z. absurd (e z)) (λ d. d)) (read_decided x (starts_up_to x p - 1) p))

-- get(p) inside an index whose counts hold: 10 alone
get_inside : (x : Index) (p : ℕ) → counts_hold x ≡ true → p < length_of x → Decided (10 if (GetDamaged x p) ∷ []) (get_rule x p)
unfolding get_rule
get_inside x p c l = rw (c, lt-ltb p (length_of x) l) (found_decided x p)

-- a call that goes on from get(p): 9, 5, then what follows
pub position_first : {A : Type 0} (x : Index) (p : ℕ) (f : Answer ℕ → Answer A) {t : List Sentence} → ((e : ℕ) → f (refused e) ≡ refused e)
    → (counts_hold x ≡ true → p < length_of x → Decided t (f (get_rule x p))) → Decided (counts x ∷ position x p ∷ t) (f (get_rule x p))
unfolding get_rule
position_first x p f stands k =
    by_test (counts_hold x)
    (λ c. go_on (λ broken. broken (counts_rule x c)) (by_test (ltb p (length_of x))
    (λ l. go_on (λ over. let inside = ltb-true p (length_of x) l in omega arith) (k c (ltb-true p (length_of x) l)))
    (λ l. rw (c, l, stands 5) (stop (ltb-false p (length_of x) l)))))
    (λ c. rw (c, stands 9) (stop ((counts_broken x).1 c)))

-- get(p)
pub get_decided : (x : Index) (p : ℕ) → Decided (get_table x p) (get_rule x p)
get_decided x p = position_first x p (λ a. a) (λ e. refl) (get_inside x p)

-- a range a..b: 9, 6, 7, then what follows
pub range_first : {A : Type 0} (x : Index) (a b : ℕ) {t : List Sentence} {rest : Answer A}
    → (counts_hold x ≡ true → b ≤ length_of x → a ≤ b → Decided t rest) → Decided (range_sentences x a b ++ t) (in_range x a b rest)
range_first x a b f =
    counts_first x (λ c. by_le b (length_of x)
    (λ l. go_on (λ over. omega arith) (by_le a b
    (λ h. go_on (λ over. omega arith) (f c l h))
    (λ over. stop over)))
    (λ over. stop over))

-- the reads of a range: one of them is damaged, or none
reads_decided : (x : Index) (a n : ℕ) → counts_hold x ≡ true → a + n ≤ length_of x
    → Decided (10 if ((p : ℕ) × (a ≤ p) × (p < a + n) × GetDamaged x p) ∷ []) (reads x a n)
unfolding reads
reads_decided x a zero c l = pass (λ d. omega arith)
reads_decided x a (suc n) c l =
    reworded
    (⊎_elim (λ d. (a, omega arith, omega arith, d)) (λ d. (d.0, omega arith, omega arith, d.3)))
    (λ d. by_test (eqb d.0 a)
    (λ e. inl (rw (eqb-true d.0 a e) at d.3))
    (λ e. let other = eqb-false d.0 a e in inr (d.0, omega arith, omega arith, d.3)))
    (before_decided (get_inside x a c (omega arith)) (reads_decided x (suc a) n c (omega arith)))

-- to write the values changes no refusal
written_decided : {t : List Sentence} {a : Answer (List ℕ)} (out : List ℕ) → Decided t a → Decided t (written out a).answer
written_decided out (none n) = none n
written_decided out (given g) = given g

-- get_range(a..b)
pub range_decided : (x : Index) (a b : ℕ) (out : List ℕ) → Decided (range_table x a b out) (range_rule x a b out).answer
unfolding range_rule
range_decided x a b out =
    written_decided out (range_first x a b (λ c l h. by_le (b - a) (length out)
    (λ room. go_on (λ over. omega arith)
    (let e : a + (b - a) ≡ b = omega arith in rw e at (reads_decided x a (b - a) c (omega arith))))
    (λ over. stop over)))

-- opening a cursor
pub iter_decided : (x : Index) (a b : ℕ) → Decided (iter_table x a b) (iter_rule x a b)
unfolding iter_rule
iter_decided x a b = range_first x a b (λ c l h. none tt)

-- the end of a target range: get(p + 1) is damaged where it is read
end_decided : (x : Index) (p t : ℕ) → counts_hold x ≡ true → Decided (10 if ((p + 2 ≤ length_of x) × GetDamaged x (p + 1)) ∷ []) (target_end x p t)
unfolding target_end
end_decided x p t c =
    by_lt (length_of x) (p + 2)
    (λ l. pass (λ d. omega arith))
    (λ l. value_decided (λ next. min next t) (reworded (λ d. (l, d)) (λ d. d.1) (get_inside x (p + 1) c (omega arith))))

-- target_range(p, t)
pub target_decided : (x : Index) (p t : ℕ) → Decided (target_table x p) (target_rule x p t)
unfolding target_rule
target_decided x p t =
    let goes_on : ℕ → Answer Span = λ from. and_then (target_end x p t) (λ to. value (span from to)) in
    position_first x p (λ a. and_then a goes_on) (λ e. refl)
    (λ c l. then_decided goes_on (get_inside x p c l) (λ from. value_decided (span from) (end_decided x p t c)))

-- deltas from `from` to `to` searched: the width is outside m to 8, not from <= to <= used, or there are more than length - start - 1
deltas_decided : (m used len : ℕ) (bytes : List ℕ) (start from to gap w : ℕ)
    → Decided (10 if (Outside m w ⊎ (to < from) ⊎ (used < to) ⊎ (len - start - 1 < (to - from) / w)) ∷ [])
    (delta_search m used len bytes start from to gap w)
unfolding delta_search
deltas_decided m used len bytes start from to gap w =
    let many = (to - from) / w in let most = len - start - 1 in
    by_all (m ≤? w ∷ w ≤? 8 ∷ from ≤? to ∷ to ≤? used ∷ many ≤? most ∷ [])
    (λ f. pass (⊎_elim (within m w f.0 f.1.0) (⊎_elim (λ c. omega arith) (⊎_elim (λ c. omega arith) (λ c. omega arith)))))
    (λ never. stop (or_outside m w (λ a b. or_else from to (λ c. or_else to used (λ d.
    let over : many ≤ most → ⊥ = λ k. never (a, (b, (c, (d, (k, tt))))) in omega arith)))))

-- v searched in segment s
search_decided : (x : Index) (s v : ℕ) → Decided (10 if (SearchDamaged x s v) ∷ []) (bisect_in x s v)
unfolding bisect_in
search_decided x s v =
    by_le (length_of x) (start x s) (λ l. stop (inl l))
    (λ l. by_eq (base x s) v
    (λ e. pass (⊎_elim (λ b. omega arith) (⊎_elim (λ b. omega arith) (λ b. omega arith))))
    (λ e. by_lt v (base x s) (λ over. stop (inr (inl over)))
    (λ h. by_lt s (widths_of x)
    (λ there. reworded
    (λ d. inr (inr (omega arith, there, d)))
    (⊎_elim (λ b. absurd (omega arith)) (⊎_elim (λ b. absurd (omega arith)) (λ b. b.2)))
    (deltas_decided (minimum_of x) (used_of x) (length_of x) x.bytes (start x s) (offset x s) (mark x (s + 1)) (v - base x s) (width x s)))
    (λ gone. pass (⊎_elim (λ b. omega arith) (⊎_elim (λ b. omega arith) (λ b. omega arith)))))))

-- bisect_left(v) of an index whose counts hold: 10 alone
bisect_inside : (x : Index) (v : ℕ) → counts_hold x ≡ true → Decided (10 if (BisectDamaged x v) ∷ []) (bisect_rule x v)
unfolding bisect_rule
bisect_inside x v c =
    rw c (by_eq (length_of x) 0
    (λ e. pass (λ d. omega arith))
    (λ some. by_eq (bases_up_to x v) 0
    (λ e. pass (λ d. omega arith))
    (λ k. reworded (λ d. (omega arith, omega arith, d)) (λ d. d.2) (search_decided x (bases_up_to x v - 1) v))))

-- bisect_left(v)
pub bisect_decided : (x : Index) (v : ℕ) → Decided (bisect_table x v) (bisect_rule x v)
unfolding bisect_rule
bisect_decided x v = by_test (counts_hold x) (λ c. go_on (λ broken. broken (counts_rule x c)) (bisect_inside x v c)) (λ c. rw c (stop ((counts_broken x).1 c)))

-- bisect_range_left(a..b, v)
pub bisect_range_decided : (x : Index) (a b v : ℕ) → Decided (bisect_range_table x a b v) (bisect_range_rule x a b v)
unfolding bisect_range_rule
bisect_range_decided x a b v = range_first x a b (λ c l h. value_decided (λ k. min b (max a k)) (bisect_inside x v c))
