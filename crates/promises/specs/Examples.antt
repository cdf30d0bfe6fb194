-- Every sentence of every table comes about, and where two apply the first in order is given: small inputs, in the order of the tables.
use Rattle.std.specs.Prelude.{ℕ, ◌-◌, ◌^◌, List, [], ◌∷◌}
use Rattle.rules.specs.Words.{Answer, value, refused}
use Rattle.rules.specs.Record.{Index, index, state, open_rule}
use Rattle.rules.specs.Push.{push_rule, length_rule, size_rule}
use Rattle.rules.specs.Reading.{get_rule, range_rule, cursor, iter_rule, Stepped, done, gave, stays, step_rule, run_count_rule, run_value_rule, target_rule, bisect_rule, bisect_range_rule}
use Rattle.rules.specs.Cases.{w9}

-- the number that an answer is refused with, 0 for a value
abbrev pub refusal : {A : Type 0} → Answer A → ℕ
refusal (value v) = 0
refusal (refused e) = e

-- the number that a step is refused with, 0 where it is not
abbrev pub step_refusal : Stepped → ℕ
step_refusal done = 0
step_refusal (gave v c) = 0
step_refusal (stays e c) = e

-- what the rule gives, and the number that is due
pub record Example : Type 0 where
  pub given : ℕ
  pub due : ℕ

-- an example: this number, given by the rule, is that one
infixl 68 ◌gives◌
abbrev pub ◌gives◌ : ℕ → ℕ → Example
g gives d = record { given = g; due = d }

-- the tables of W9 under another state: its counts are broken, m is 0
abbrev pub broken : Index
broken = index (state 0 5 3 2 2) w9.starts w9.bases w9.offsets w9.widths w9.bytes

-- one segment with base 10, of two values, with these widths and data bytes
abbrev pub two : List ℕ → List ℕ → Index
two widths bytes = index (state 1 2 1 1 1) (0 ∷ []) (10 ∷ []) (0 ∷ []) widths bytes

-- one segment with base 10, of one value and no width, with these widths and data bytes
abbrev pub single : List ℕ → List ℕ → Index
single widths bytes = index (state 1 1 1 0 0) (0 ∷ []) (10 ∷ []) (0 ∷ []) widths bytes

-- two values, the width is damaged
abbrev pub bad_width : Index
bad_width = two (9 ∷ []) (1 ∷ [])

-- two values, the second in two bytes, and room for one byte more
abbrev pub wide : Index
wide = index (state 1 2 1 1 2) (0 ∷ []) (10 ∷ []) (0 ∷ []) (2 ∷ []) (0 ∷ 1 ∷ 7 ∷ [])

-- the largest value, and this delta on top of it
abbrev pub topmost : ℕ → Index
topmost delta = index (state 1 2 1 1 1) (0 ∷ []) ((2 ^ 64 - 1) ∷ []) (0 ∷ []) (1 ∷ []) (delta ∷ [])

-- one value, and a start at length
abbrev pub late : Index
late = index (state 1 1 1 0 0) (1 ∷ []) (10 ∷ []) (0 ∷ []) [] []

-- each entry point's sentences in order, then what is given where two apply
unfoldable pub examples : List Example
examples =
    refusal (open_rule 0) gives 11 ∷ refusal (open_rule 9) gives 11
    ∷ refusal (push_rule broken 600).answer gives 9
    ∷ refusal (push_rule bad_width 11).answer gives 10
    ∷ refusal (push_rule (two (1 ∷ []) (1 ∷ [])) 9).answer gives 1
    ∷ refusal (push_rule (two (1 ∷ []) (1 ∷ [])) 300).answer gives 2
    ∷ refusal (push_rule (single [] (7 ∷ [])) 11).answer gives 3
    ∷ refusal (push_rule (single (7 ∷ []) []) 11).answer gives 4
    ∷ refusal (push_rule (two (1 ∷ []) (1 ∷ [])) 11).answer gives 4
    ∷ refusal (push_rule wide 11).answer gives 4
    ∷ refusal (push_rule bad_width 9).answer gives 10
    ∷ refusal (push_rule (single [] []) 9).answer gives 1
    ∷ refusal (push_rule (single [] []) 11).answer gives 3
    ∷ refusal (length_rule broken) gives 9 ∷ refusal (size_rule broken) gives 9 ∷ refusal (length_rule (single [] [])) gives 0
    ∷ refusal (get_rule broken 0) gives 9 ∷ refusal (get_rule w9 5) gives 5 ∷ refusal (get_rule bad_width 1) gives 10
    ∷ refusal (get_rule (topmost 1) 1) gives 10 ∷ refusal (get_rule (topmost 0) 1) gives 0
    ∷ refusal (get_rule broken 5) gives 9
    ∷ refusal (range_rule broken 0 1 (7 ∷ [])).answer gives 9
    ∷ refusal (range_rule w9 0 6 (7 ∷ [])).answer gives 6
    ∷ refusal (range_rule w9 3 2 (7 ∷ [])).answer gives 7
    ∷ refusal (range_rule w9 0 2 (7 ∷ [])).answer gives 8
    ∷ refusal (range_rule bad_width 0 2 (7 ∷ 7 ∷ [])).answer gives 10
    ∷ refusal (range_rule w9 7 6 (7 ∷ [])).answer gives 6
    ∷ refusal (range_rule bad_width 0 2 (7 ∷ [])).answer gives 8
    ∷ refusal (iter_rule broken 0 1) gives 9 ∷ refusal (iter_rule w9 0 6) gives 6 ∷ refusal (iter_rule w9 3 2) gives 7
    ∷ step_refusal (step_rule broken (cursor 0 1)) gives 9
    ∷ step_refusal (step_rule w9 (cursor 5 6)) gives 5
    ∷ step_refusal (step_rule bad_width (cursor 1 2)) gives 10
    ∷ step_refusal (step_rule broken (cursor 1 1)) gives 0
    ∷ refusal (run_count_rule (7 ∷ []) 0) gives 10 ∷ refusal (run_count_rule (7 ∷ []) 9) gives 10
    ∷ refusal (run_value_rule (7 ∷ []) 0 0 0) gives 10
    ∷ refusal (run_value_rule (7 ∷ []) 0 1 1) gives 5
    ∷ refusal (run_value_rule (7 ∷ []) (2 ^ 64 - 7) 1 0) gives 10
    ∷ refusal (run_value_rule (7 ∷ []) 0 9 1) gives 10
    ∷ refusal (target_rule broken 0 600) gives 9 ∷ refusal (target_rule w9 5 600) gives 5
    ∷ refusal (target_rule bad_width 1 600) gives 10 ∷ refusal (target_rule bad_width 0 0) gives 10
    ∷ refusal (bisect_rule broken 0) gives 9 ∷ refusal (bisect_rule bad_width 11) gives 10 ∷ refusal (bisect_rule late 10) gives 10
    ∷ refusal (bisect_range_rule broken 0 1 0) gives 9
    ∷ refusal (bisect_range_rule w9 0 6 0) gives 6
    ∷ refusal (bisect_range_rule w9 3 2 0) gives 7
    ∷ refusal (bisect_range_rule bad_width 0 0 11) gives 10
    ∷ []
