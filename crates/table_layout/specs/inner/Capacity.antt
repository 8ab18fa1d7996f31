-- What the code that lays out a table asks of its slices, and what it leaves in them.
use Rattle.std.specs.Prelude.{◌≡◌, List, map, ℕ, ◌≤◌, ◌<◌, length, get_or}
use Rattle.common.specs.Limits.{max_position, max_size}
use Rattle.text.specs.declared.Estimate.{Estimate}
use Rattle.records.specs.inner.NodeRecord.{no_entry}
use Rattle.records.specs.declared.NodeRecord.{NodeRecord}
use Rattle.records.specs.declared.Entry.{Entry}
use Rattle.records.specs.declared.RowEnd.{RowEnd}
use Rattle.resolved_rows.specs.Cells as cells
use Rattle.resolved_rows.specs.Listed.{table_rows}
use Rattle.grid_positions.specs.Positions.{all_rows, entry_count}
use Rattle.grid.specs.Grid.{grid_of, columns_of, entries_of}
use Rattle.columns.specs.inner.Boxes.{TilesAll}
use Rattle.placement.specs.inner.Rows.{Ascends}
use Rattle.records.specs.inner.Figures.{row_end}
use Rattle.table_layout.specs.inner.Laying.{box_rows_by}

-- a table's records: entries, rows that tile the columns, the estimates of the sheet's lines; and places for the results
pub record LayPre (es : List Entry) (rs : List RowEnd) (figures : List Estimate) (width : ℕ) (column xs wides : List ℕ) : Type 0 where
  pub xs_length : length xs ≡ length es
  pub wides_length : length wides ≡ length es
  pub within : (i : ℕ) → i < length es → (get_or es i no_entry).cell ≤ length figures
  pub ascends : Ascends 0 (map row_end rs) (length es)
  pub tiles : TilesAll (length column) (box_rows_by rs es figures)
  pub columns : length column ≤ max_position
  pub small : width ≤ max_size

-- there are records for the entries of the table at a place, and one for each line of the sheet
pub record GridCapacity (ks : List NodeRecord) (at : ℕ) (es : List Entry) (rs : List RowEnd) : Type 0 where
  pub entry_capacity : entry_count (all_rows (table_rows ks at)) ≤ length es
  pub row_capacity : length ks ≤ length rs

-- places for the results
pub record ArrangePre (table : List cells.Row) (width : ℕ) (column x wide : List ℕ) : Type 0 where
  pub column_capacity : columns_of table ≤ length column
  pub x_capacity : length (entries_of (grid_of table)) ≤ length x
  pub wide_capacity : length (entries_of (grid_of table)) ≤ length wide
  pub small : width ≤ max_size
