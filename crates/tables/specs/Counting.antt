-- What taking an index as counted answers.
use Rattle.std.specs.Prelude.{Ok, Err}
use Rattle.std.specs.declared.result.Result.{Result}
use Rattle.rules.specs.declared.CompactReader.{CompactReader}
use Rattle.rules.specs.declared.Refusal.{Refusal}
use Rattle.rules.specs.Words.{Answer, value, refused}
use Rattle.rules.specs.Refusals.{number_of}
use Rattle.tables.specs.declared.counts.Counted.{Counted}

-- the index that keeps the counts rule, or the refusal's number
abbrev pub counted_of : Result Counted Refusal → Answer CompactReader
counted_of (Ok c) = value c.index.now
counted_of (Err e) = refused (number_of e)
