-- The grid of a plain table, in which every cell takes one column and one row: the column of an entry is its place in its row. proofs/Plain has the law that this is the grid by the column edges.
use Rattle.std.specs.Prelude.{◌≡◌, false, List, [], ◌∷◌, map, ℕ, ◌+◌, max, length}
use Rattle.common.specs.Lists.{All}
use Rattle.resolved_rows.specs.Cells.{Cell, Row}
use Rattle.grid.specs.Grid.{Entry, entry, GridRow, grid_of, columns_of}

-- a cell of one column and one row, a row of such cells, and a table of such rows
abbrev pub Plain : Cell → Type 0
Plain c = (c.cols ≡ 1) × (c.rows ≡ 1)

abbrev pub PlainRow : Row → Type 0
PlainRow r = All Plain r.cells

abbrev pub PlainTable : List Row → Type 0
PlainTable rs = All PlainRow rs

-- the entries of a row's cells, from column k on
unfoldable pub plain_entries : ℕ → List Cell → List Entry
plain_entries k [] = []
plain_entries k (c ∷ cs) = entry c.line false k 1 ∷ plain_entries (k + 1) cs

abbrev pub plain_row : Row → GridRow
plain_row r = record { line = r.line; entries = plain_entries 0 r.cells }

unfoldable pub plain_grid : List Row → List GridRow
plain_grid rs = map plain_row rs

-- the number of cells of the longest row
unfoldable pub most_cells : List Row → ℕ
most_cells [] = 0
most_cells (r ∷ rs) = max (length r.cells) (most_cells rs)

-- the grid of a table, and its number of columns, are these
pub record IsPlainGrid (rs : List Row) : Type 0 where
  pub grid : grid_of rs ≡ plain_grid rs
  pub columns : columns_of rs ≡ most_cells rs
