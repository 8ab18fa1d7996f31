-- The refusal of a table, and what every accepted table has.
use Rattle.std.specs.Prelude.{◌≡◌, List, Result, Ok}
use Rattle.common.specs.Refusals.{verdict_of}
use Rattle.common.specs.declared.Reason.{Reason}
use Rattle.common.specs.declared.Refusal.{Refusal}
use Rattle.records.specs.declared.NodeRecord.{NodeRecord}
use Rattle.resolved_rows.specs.Cells as cells
use Rattle.grid.specs.Grid.{tables_checks}
use Rattle.grid_bounds.specs.inner.Sheets.{AllSound}
use Rattle.grid_counts.specs.inner.Count.{count_of}

unfoldable pub refusal_of : List cells.Row → Result (Unit {0}) Reason
refusal_of table = count_of table

-- the first refusal of a table, in the order of lines; if there is none, no table has one
pub record TablesChecked (ks : List NodeRecord) (r : Result (Unit {0}) Refusal) : Type 0 where
  pub answer : r ≡ verdict_of (tables_checks 1 ks)
  pub sound : r ≡ Ok tt → AllSound ks
