-- The grid of a table as records of its entries and rows.
use Rattle.std.specs.Prelude.{◌≡◌, List, [], ◌∷◌, map, ℕ, ◌+◌, ◌≤◌, ◌<◌, length, take}
use Rattle.records.specs.declared.NodeRecord.{NodeRecord}
use Rattle.records.specs.declared.Entry.{Entry}
use Rattle.records.specs.declared.RowEnd.{RowEnd}
use Rattle.resolved_rows.specs.Cells as cells
use Rattle.resolved_rows.specs.Listed.{table_rows}
use Rattle.grid_positions.specs.Positions.{entry_count, all_rows}
use Rattle.grid.specs.Grid as grid
use Rattle.grid.specs.Grid.{GridRow, grid_of, columns_of}
use Rattle.grid.specs.Facts.{Sound}
use Rattle.grid.specs.Judging.{Lined, shown}
use Rattle.grid_build.specs.declared.Counts.{Counts}
-- an entry and a row as records; `shown` is an entry as a listing shows it
pub use Rattle.grid.specs.Judging.{shown}

abbrev pub entry : ℕ → ℕ → ℕ → Entry
entry cell first span = record { cell = cell; first = first; span = span }

abbrev pub row : ℕ → ℕ → RowEnd
row line end = record { line = line; end = end }

-- for each row its line, and the number of entries up to and including it; n stand before
unfoldable pub ended_rows : ℕ → List GridRow → List RowEnd
ended_rows n [] = []
ended_rows n (r ∷ rs) = row r.line (n + length r.entries) ∷ ended_rows (n + length r.entries) rs

-- a table of an opened sheet, and records for its entries and rows
pub record TableReady (ks : List NodeRecord) (at : ℕ) (es : List Entry) (rs : List RowEnd) : Type 0 where
  pub within : at < length ks
  pub lined : Lined ks
  pub sound : Sound (table_rows ks at)
  pub entry_capacity : entry_count (all_rows (table_rows ks at)) ≤ length es
  pub row_capacity : length ks ≤ length rs

-- the grid stands in the first records
pub record TableMade (table : List cells.Row) (counts : Counts) (es : List Entry) (rs : List RowEnd) : Type 0 where
  pub rows_are : counts.rows ≡ length (grid_of table)
  pub entries_are : counts.entries ≡ length (grid.entries_of (grid_of table))
  pub columns_are : counts.columns ≡ columns_of table
  pub entries : take (length (grid.entries_of (grid_of table))) es ≡ map shown (grid.entries_of (grid_of table))
  pub rows : take (length (grid_of table)) rs ≡ ended_rows 0 (grid_of table)
