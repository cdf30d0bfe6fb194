-- The numbers of the kinds of calls and of the tables in a record.
use Rattle.std.specs.Prelude.{ℕ, ◌≡◌, ◌≢◌, MatchResult}
use Rattle.std.specs.declared.result.Result.{Result}
use Rattle.replay.specs.declared.kinds.Kind.{Kind}
use Rattle.replay.specs.declared.kinds.Kind.TheVariants.{Open, Push, Length, Size, Get, GetRange, Output, Iter, Step, TargetRange, BisectLeft, BisectRangeLeft, Entry}
use Rattle.replay.specs.declared.kinds.UnknownKind.{UnknownKind}
use Rattle.replay.specs.declared.kinds.Table.{Table}
use Rattle.replay.specs.declared.kinds.Table.TheVariants.{Starts, Bases, Offsets, Widths, Bytes}
use Rattle.replay.specs.declared.kinds.UnknownTable.{UnknownTable}

-- the number of a kind
abbrev pub kind_number : Kind → ℕ
kind_number Open = 1
kind_number Push = 2
kind_number Length = 3
kind_number Size = 4
kind_number Get = 5
kind_number GetRange = 6
kind_number Output = 7
kind_number Iter = 8
kind_number Step = 9
kind_number TargetRange = 10
kind_number BisectLeft = 11
kind_number BisectRangeLeft = 12
kind_number Entry = 13

-- the kind of a number, or that no kind has it
abbrev pub DecodesKind : ℕ → Result Kind UnknownKind → Type 0
DecodesKind n r = MatchResult r (λ k. kind_number k ≡ n) (λ e. (k : Kind) → kind_number k ≢ n)

-- the number of a table
abbrev pub table_number : Table → ℕ
table_number Starts = 0
table_number Bases = 1
table_number Offsets = 2
table_number Widths = 3
table_number Bytes = 4

-- the table of a number, or that no table has it
abbrev pub DecodesTable : ℕ → Result Table UnknownTable → Type 0
DecodesTable n r = MatchResult r (λ t. table_number t ≡ n) (λ e. (t : Table) → table_number t ≢ n)
