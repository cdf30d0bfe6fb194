-- Document 01, "The dump program": the lines that it prints, as bytes.
use Rattle.std.specs.Prelude.{ℕ, zero, suc, ◌+◌, ◌-◌, ◌/◌, List, [], ◌++◌, ltb, eqb, codes}
use Prim.Native.String.{String}
use Rattle.io.specs.Digits.{last_digits}
use Rattle.rules.specs.declared.Width.{Width}
use Rattle.rules.specs.declared.Width.TheVariants.{Of, Absent}
use Rattle.rules.specs.Words.{when, unless, Answer, value, refused}
use Rattle.rules.specs.Record.{Index, length_of, segments_of, start, base, offset, counts_hold}
use Rattle.rules.specs.Push.{length_rule, size_rule}
use Rattle.rules.specs.Refusals.{width_at}
use Rattle.dump.specs.Feeding.{Fed}

-- how many decimal digits n has, if that is at most `most` + 1
unfoldable pub places : ℕ → ℕ → ℕ
places zero n = 1
places (suc most) n = when (ltb n 10) 1 (suc (places most (n / 10)))

-- a 64-bit number in decimal: at most 20 digits, no zeros in front
unfoldable pub decimal : ℕ → List ℕ
decimal n = last_digits 10 (places 19 n) n

-- the end of a line
abbrev pub newline : List ℕ
newline = codes "\n"

-- a label and a number
abbrev pub field : String → ℕ → List ℕ
field label n = codes label ++ decimal n

-- the line of a call's answer; a refused call has none
abbrev pub answer_line : String → Answer ℕ → List ℕ
answer_line label (value n) = field label n ++ newline
answer_line label (refused e) = []

-- how the input ended: the refusal, with the number of the value refused (all before it were taken, so that is the length);
-- otherwise a tail of bytes that make no value; otherwise no line
unfoldable pub end_line : (length count refusal : ℕ) → List ℕ
end_line length count refusal =
    unless (eqb refusal 0) (field "refused " length ++ field " number " refusal ++ newline)
    (unless (eqb count 0) (field "tail " count ++ newline) [])

-- a segment's width, or that it has none
abbrev pub width_text : Width → List ℕ
width_text (Of w) = field " width " w
width_text Absent = codes " width none"

-- segment k's line
unfoldable pub segment_line : Index → ℕ → List ℕ
segment_line x k =
    field "segment " k ++ field " start " (start x k) ++ field " base " (base x k) ++ field " offset " (offset x k)
    ++ width_text (width_at x.state x.widths k) ++ newline

-- line number i: how the input ended; length, segments and bytes; then a line a segment. Where the counts rule is broken there is none
unfoldable pub report_line : Fed → ℕ → List ℕ
report_line f i =
    unless (counts_hold f.index) []
    (when (eqb i 0) (end_line (length_of f.index) f.count f.refusal)
    (when (eqb i 1) (answer_line "length " (length_rule f.index))
    (when (eqb i 2) (answer_line "segments " (value (segments_of f.index)))
    (when (eqb i 3) (answer_line "bytes " (size_rule f.index))
    (when (ltb (i - 4) (segments_of f.index)) (segment_line f.index (i - 4)) [])))))

-- n lines from number i on, one after another
unfoldable pub lines_from : Fed → ℕ → ℕ → List ℕ
lines_from f zero i = []
lines_from f (suc n) i = report_line f i ++ lines_from f n (suc i)

-- the whole report
unfoldable pub report : Fed → List ℕ
report f = lines_from f (4 + segments_of f.index) 0
