-- Where the input is cut does not matter, and eight bytes are a little-endian value.
use Prim.Native.Nat.{ℕ, suc, ◌+◌, ◌*◌, ◌<◌, ◌≤◌}
use mathlib.Core.List.{List, [], ◌∷◌, ◌++◌}
use mathlib.Core.Path.{◌≡◌, refl, sym, ap}
use native.Mathlib.Omega.{arith}
use lib.ListN.{length, get_or, drop, drop_of_length-le}
use lib.Seq.{drop-cons}
use Rattle.std.specs.declared.result.Result.{Result}
use Rattle.std.specs.declared.option.Option.{Option}
use Rattle.std.specs.Prelude.{Some, None, not, eqb, MatchOption}
use Rattle.std.specs.Option.{is_some}
use Rattle.std.specs.declared.num.NonZeroU64.{NonZeroU64}
use Rattle.std.specs.NonZero.{non_zero_u64_get}
use borrow.Author.Tests.{ne_eqb}
use Rattle.rules.specs.declared.Refusal.{Refusal}
use Rattle.rules.specs.Record.{Index}
use Rattle.rules.specs.Push.{Outcome, outcome, delta_at}
use Rattle.rules.specs.Refusals.{answer_of}
use Rattle.dump.specs.Feeding.{Fed, fed, number_in, with_byte, refusal_of, value_rule, byte_rule, feed_rule}

-- feeding two pieces is feeding them as one
pub pieces : (a b : List ℕ) (f : Fed) → feed_rule f (a ++ b) ≡ feed_rule (feed_rule f a) b
unfolding feed_rule
pieces [] b f = refl
pieces (v ∷ a) b f = pieces a b (byte_rule f v)

-- eight bytes, each put on top of those before it, make the number whose least significant byte came first
eight_bytes : (a b c d e f g h : ℕ)
    → with_byte (with_byte (with_byte (with_byte (with_byte (with_byte (with_byte (with_byte 0 a) b) c) d) e) f) g) h
    ≡ a + 256 * (b + 256 * (c + 256 * (d + 256 * (e + 256 * (f + 256 * (g + 256 * (h + 256 * 0)))))))
eight_bytes a b c d e f g h = omega arith

-- eight bytes at the start of a value push it: the number that they make, least significant first
pub value_fed : (x : Index) (a b c d e f g h : ℕ) (rest : List ℕ)
    → feed_rule (fed x 0 0 0) (a ∷ b ∷ c ∷ d ∷ e ∷ f ∷ g ∷ h ∷ rest)
    ≡ feed_rule (value_rule x (delta_at (a ∷ b ∷ c ∷ d ∷ e ∷ f ∷ g ∷ h ∷ []) 0 8)) rest
unfolding feed_rule byte_rule delta_at
value_fed x a b c d e f g h rest = ap (λ v. feed_rule (value_rule x v) rest) (eight_bytes a b c d e f g h)

-- the number is 0 where no refusal is kept
pub kept : (o : Option NonZeroU64) → eqb (number_in o) 0 ≡ not (is_some o)
kept None = refl
kept (Some n) = ne_eqb n.value 0 (λ z. absurd (omega (arith, n.ok)))

-- a number as it is kept
pub numbered : (n : ℕ) (o : Option NonZeroU64) → MatchOption o (n ≡ 0) (λ x. non_zero_u64_get x ≡ n) → number_in o ≡ n
numbered n None h = sym h
numbered n (Some x) h = h

-- what the code carries after a push is what the rule carries
pub pushed : (r : Result ℕ Refusal) (x : Index) (o : Outcome) (n : ℕ) → outcome (answer_of r) x ≡ o → n ≡ refusal_of (answer_of r) → fed x 0 0 n ≡ fed o.left 0 0 (refusal_of o.answer)
pushed r x o n e f = rw (← e, f)

-- one byte of a piece fed, and then the rest of it
pub feed_step : (f : Fed) (piece : List ℕ) (i : ℕ) → i < length piece → feed_rule (byte_rule f (get_or piece i 0)) (drop (suc i) piece) ≡ feed_rule f (drop i piece)
unfolding feed_rule
feed_step f piece i h = rw (drop-cons piece i 0 h, feed_rule)

-- nothing is left of the piece
pub feed_done : (f : Fed) (piece : List ℕ) (i : ℕ) → length piece ≤ i → feed_rule f (drop i piece) ≡ f
unfolding feed_rule
feed_done f piece i h = rw (drop_of_length-le piece h, feed_rule)
