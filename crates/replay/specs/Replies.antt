-- An answer in a record's numbers.
use Rattle.std.specs.Prelude.{ℕ, List, ◌++◌, Some, None, codes}
use Rattle.std.specs.Fmt.{decimal}
use Rattle.std.specs.declared.option.Option.{Option}
use Rattle.rules.specs.Words.{Answer, value, refused}
use Rattle.rules.specs.Reading.{Span}
use Rattle.replay.specs.declared.replies.Reply.{Reply}

-- an answer of these three numbers
abbrev pub reply : ℕ → ℕ → ℕ → Reply
reply answered r s = record { answered = answered; r = r; s = s }

-- an answer of one number
abbrev pub number_reply : Answer ℕ → Reply
number_reply (value v) = reply 1 v 0
number_reply (refused e) = reply 0 e 0

-- an answer of two numbers
abbrev pub span_reply : Answer Span → Reply
span_reply (value s) = reply 1 s.from s.to
span_reply (refused e) = reply 0 e 0

-- a call of no known kind
abbrev pub unknown_reply : Reply
unknown_reply = reply 2 0 0

-- an entry, or that it is not there
abbrev pub entry_reply : Option ℕ → Reply
entry_reply None = reply 0 0 0
entry_reply (Some v) = reply 1 v 0

-- an answer's three numbers as text
abbrev pub three_numbers : Reply → List ℕ
three_numbers y = decimal y.answered ++ codes " " ++ decimal y.r ++ codes " " ++ decimal y.s
