-- Document 01, "Iterator": what a step answers, exactly when.
use Rattle.std.specs.Prelude.{ℕ, ◌+◌, ◌≤◌, ◌<◌, ◌↔◌, ◌≡◌}
use Rattle.rules.specs.declared.Cursor.{Cursor}
use Rattle.rules.specs.Words.{value}
use Rattle.rules.specs.Record.{Index}
use Rattle.rules.specs.Reading.{Stepped, done, gave, stays, cursor, get_rule}
use Rattle.promises.specs.Sentences.{Given}
use Rattle.promises.specs.Table.{get_table}

-- with next at or past end it is done, before any other test, 9 too; otherwise it refuses as get(next) does and stays, or answers as get(next) does
-- and moves by one
pub record StepExactly (x : Index) (c : Cursor) (step : Stepped) : Type 0 where
  pub finishes : (step ≡ done) ↔ (c.end ≤ c.next)
  pub refuses : (e : ℕ) → (step ≡ stays e c) ↔ ((c.next < c.end) × Given (get_table x c.next) e)
  pub gives : (v : ℕ) → (step ≡ gave v (cursor (c.next + 1) c.end)) ↔ ((c.next < c.end) × (get_rule x c.next ≡ value v))
