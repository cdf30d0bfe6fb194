-- The rules of one segment, letter by letter: B reads the starts; C to F take the segment's number of deltas and its width.
use Rattle.std.specs.Prelude.{ℕ, ◌+◌, List, [], ◌∷◌}
use Rattle.rules.specs.Words.{Test}
use Rattle.rules.specs.Record.{Index, minimum_of, length_of, segments_of, widths_of, used_of, base, edge, mark}
use Rattle.rules.specs.Audit.{C, D, E, F, tests_b, tests_c, tests_d, tests_e, tests_f, Rule, ◌by◌}

-- B of segment k
abbrev pub rule_b : Index → ℕ → List Test
rule_b x k = tests_b (length_of x) (segments_of x) k (edge x k) (edge x (k + 1))

-- C of segment k at width w
abbrev pub rule_c : Index → (k w : ℕ) → List Test
rule_c x k w = tests_c (minimum_of x) (widths_of x) k w

-- D of segment k at width w
abbrev pub rule_d : Index → (k w : ℕ) → List Test
rule_d x k w = tests_d (segments_of x) k (base x k) (base x (k + 1)) w

-- E of segment k with d deltas of width w
abbrev pub rule_e : Index → (k d w : ℕ) → List Test
rule_e x k d w = tests_e (widths_of x) (used_of x) k d w (mark x k) (mark x (k + 1))

-- F of segment k with d deltas of width w
abbrev pub rule_f : Index → (k d w : ℕ) → List Test
rule_f x k d w = tests_f (widths_of x) k d (base x k) w (mark x k) x.bytes

-- C to F of segment k with d deltas of width w, in order
abbrev pub rules_cto_f : Index → (k d w : ℕ) → List Rule
rules_cto_f x k d w = C by (rule_c x k w) ∷ D by (rule_d x k w) ∷ E by (rule_e x k d w) ∷ F by (rule_f x k d w) ∷ []
