-- The records of a grid, cut from the slices that it was made in.
use Rattle.std.specs.Prelude.{◌≡◌, List, map, ℕ, take}
use Rattle.records.specs.declared.Entry.{Entry}
use Rattle.records.specs.declared.RowEnd.{RowEnd}
use Rattle.resolved_rows.specs.Cells as cells
use Rattle.grid.specs.Grid.{grid_of, columns_of, entries_of}
use Rattle.grid.specs.Judging.{shown}
use Rattle.grid_build.specs.inner.Records.{ended_rows}
use Rattle.grid_build.specs.declared.Counts.{Counts}

-- the first of two slices
pub record RecordsPost (counts : Counts) (es : List Entry) (rs : List RowEnd) (entries : List Entry) (rows : List RowEnd) (columns : ℕ) : Type 0 where
  pub entries_are : entries ≡ take counts.entries es
  pub rows_are : rows ≡ take counts.rows rs
  pub columns_are : columns ≡ counts.columns

-- all entries, rows and columns of a table's grid
pub record GridRecords (table : List cells.Row) (entries : List Entry) (rows : List RowEnd) (columns : ℕ) : Type 0 where
  pub entries_are : entries ≡ map shown (entries_of (grid_of table))
  pub rows_are : rows ≡ ended_rows 0 (grid_of table)
  pub columns_are : columns ≡ columns_of table
