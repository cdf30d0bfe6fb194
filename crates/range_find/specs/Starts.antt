-- What is known of the search ahead.
use Rattle.std.specs.Prelude.{ℕ, ◌≤◌, List, length}
use Rattle.index_stream.specs.declared.Found.{Found}
use Rattle.index_stream.specs.Searches.{Stays}

-- what was found is what the search finds for each position from p up to its end, which is not past the limit
pub record Holds (starts : List ℕ) (p limit : ℕ) (r : Found) : Type 0 where
  pub within : r.until ≤ limit
  pub stays : Stays starts (length starts) p r.number r.until
