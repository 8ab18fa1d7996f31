-- Rows by positions in slices, and what numbering them takes and gives.
use Rattle.std.specs.Prelude.{◌≡◌, Bool, List, ◌∷◌, map, ℕ, ◌/◌, ◌≤◌, length, take, Some}
use Rattle.common.specs.Lists.{mem}
use Rattle.records.specs.declared.Entry as records
use Rattle.records.specs.declared.RowEnd.{RowEnd}
use Rattle.column_edges.specs.inner.Edges.{rows_from, rows_ends, RowsFit}
use Rattle.resolved_rows.specs.Cells as cells
use Rattle.grid_row.specs.declared.Overhang.{Overhang}
use Rattle.grid_row.specs.Row.{item_span}
use Rattle.grid_row.specs.inner.Row.{item_line}
use Rattle.grid_positions.specs.declared.Positions.{Positions}
use Rattle.grid_positions.specs.Positions.{all_rows, entry_count}
use Rattle.grid_positions.specs.inner.Slices.{all_items, entry_ends, placed_line}
use Rattle.grid.specs.inner.Numbering.{RowsNumbered}
use Rattle.grid.specs.Grid.{GridRow, grid_of, columns_of, entries_of, row_ends}
use Rattle.grid.specs.Judging.{shown}

-- a position is an edge of rows of spans if it is 0 or the end of an entry
abbrev pub edge_of_rows : List (List ℕ) → ℕ → Bool
edge_of_rows rs p = mem p (0 ∷ rows_ends rs)

-- rows by positions: the first `entries` figures of `wide` are the spans of their entries, the first `rows` figures of `ends` say how many entries
-- there are up to and including each row
pub record PlacedGridPre (rows entries : ℕ) (wide ends : List ℕ) : Type 0 where
  pub ends_in : rows ≤ length ends
  pub wide_in : entries ≤ length wide
  pub fit : RowsFit 0 (take rows ends) (take entries wide)

-- what becomes of them in columns, of which there are so many
abbrev pub PlacedGridPost : ℕ → ℕ → List ℕ → List ℕ → List ℕ → ℕ → List records.Entry → Type 0
PlacedGridPost rows entries wide line ends columns es =
    RowsNumbered (edge_of_rows (rows_from 0 (take rows ends) (take entries wide))) (rows_from 0 (take rows ends) (take entries wide)) (take entries line) (Some columns) es

-- the rows of a table by positions stand in the first places of the slices
pub record RowsStand (table : List cells.Row) (rows entries : ℕ) (wide line row end : List ℕ) : Type 0 where
  pub lines : take entries line ≡ map item_line (all_items (all_rows table))
  pub spans : take entries wide ≡ map item_span (all_items (all_rows table))
  pub row_lines : take rows row ≡ map placed_line (all_rows table)
  pub ends : take rows end ≡ entry_ends 0 (all_rows table)

pub record PlaceTablePost (table : List cells.Row) (placed : Positions) (wide line row end : List ℕ) : Type 0 where
  pub rows_are : placed.rows ≡ length table
  pub entries_are : placed.entries ≡ entry_count (all_rows table)
  pub stand : RowsStand table placed.rows placed.entries wide line row end

abbrev pub grid_line : GridRow → ℕ
grid_line r = r.line

-- the counts of the grid are these, its entries stand in the first records, and its rows in the first places of two slices
pub record GridStands (table : List cells.Row) (rows n columns : ℕ) (es : List records.Entry) (row end : List ℕ) : Type 0 where
  pub rows_are : rows ≡ length (grid_of table)
  pub entries_are : n ≡ length (entries_of (grid_of table))
  pub columns_are : columns ≡ columns_of table
  pub entries : take (length (entries_of (grid_of table))) es ≡ map shown (entries_of (grid_of table))
  pub row_lines : take (length (grid_of table)) row ≡ map grid_line (grid_of table)
  pub row_ends : take (length (grid_of table)) end ≡ row_ends 0 (grid_of table)

-- the lent slices have a record for each entry, and for each of n lines
pub record PlaceTablePre (n entries : ℕ) (cells overhang : List ℕ) (next : List Overhang) (es : List records.Entry) (rows : List RowEnd) : Type 0 where
  pub cell_capacity : n ≤ length cells / 3
  pub overhang_capacity : n ≤ length overhang / 3
  pub next_capacity : n ≤ length next
  pub entry_capacity : entries ≤ length es
  pub row_capacity : n ≤ length rows
