-- A bound on the cells of all tables of a sheet together, within which no table can be refused.
use Rattle.std.specs.Prelude.{◌≡◌, true, cond, List, map, ℕ, ◌≤◌, ◌<◌, eqb, length, get_or}
use Rattle.common.specs.Lists.{sum}
use Rattle.common.specs.Limits.{max_position, max_entries}
use Rattle.kinds.specs.Kinds.{kind_number, table_kind, cell_kind, may_hold}
use Rattle.records.specs.Parents.{Parent}
use Rattle.records.specs.NodeRecord.{no_node}
use Rattle.records.specs.declared.NodeRecord.{NodeRecord}
use Rattle.resolved_rows.specs.Cells.{cell}
use Rattle.resolved_rows.specs.Listed.{table_rows}
use Rattle.grid.specs.Facts.{Sound}
use Rattle.grid_bounds.specs.inner.Bound.{wide_of, rows_of}

-- what a line's cell spans and asks for
abbrev pub cols_by : NodeRecord → ℕ
cols_by l = cond (eqb (kind_number l.kind) cell_kind) (wide_of (cell 0 l.cols l.rows)) 0

abbrev pub rows_by : NodeRecord → ℕ
rows_by l = cond (eqb (kind_number l.kind) cell_kind) (rows_of (cell 0 l.cols l.rows)) 0

-- all cells of the sheet together span no more columns than a row may, and ask for at most so many rows; none has cols 0 or rows 0
pub record SheetBound (most : ℕ) (ks : List NodeRecord) : Type 0 where
  pub cols : sum (map cols_by ks) ≤ max_position
  pub rows : sum (map rows_by ks) ≤ most

-- so many records of entries and of rows suffice for the grid of any table: there are no more lines, and the cells ask for no more rows
pub record Suffice (entries rows : ℕ) (ks : List NodeRecord) : Type 0 where
  pub few : length ks ≤ rows
  pub most : ℕ
  pub within : most ≤ entries
  pub small : most ≤ max_entries
  pub bound : SheetBound most ks

-- each line's parent may hold it
pub record Nests (ks : List NodeRecord) : Type 0 where
  pub holds : (p i : ℕ) → Parent ks p i → may_hold (get_or ks p no_node).kind (get_or ks i no_node).kind ≡ true

-- neither of the refusals 5 and 6 applies to any table
pub record AllSound (ks : List NodeRecord) : Type 0 where
  pub at : (t : ℕ) → t < length ks → kind_number (get_or ks t no_node).kind ≡ table_kind → Sound (table_rows ks t)
