-- The cells of a table listed row by row in slices of numbers: what the function takes and promises.
use Rattle.std.specs.Prelude.{◌≡◌, List, [], ◌∷◌, ◌++◌, map, ℕ, ◌+◌, ◌≤◌, ◌<◌, length, get_or}
use Rattle.common.specs.Limits.{max_lines, max_depth, max_cols}
use Rattle.common.specs.inner.Lists.{over}
use Rattle.records.specs.NodeRecord.{no_node}
use Rattle.records.specs.declared.NodeRecord.{NodeRecord}
use Rattle.resolved_rows.specs.Cells.{Cell, Row}

abbrev pub cell_line : Cell → ℕ
cell_line c = c.line

abbrev pub cell_cols : Cell → ℕ
cell_cols c = c.cols

abbrev pub cell_rows : Cell → ℕ
cell_rows c = c.rows

abbrev pub written_line : Row → ℕ
written_line r = r.line

-- the cells of all rows, one after the other
unfoldable pub all_cells : List Row → List Cell
all_cells [] = []
all_cells (r ∷ rs) = r.cells ++ all_cells rs

-- for each row the number of cells up to and including it; n stand before
unfoldable pub cell_ends : ℕ → List Row → List ℕ
cell_ends n [] = []
cell_ends n (r ∷ rs) = (n + length r.cells) ∷ cell_ends (n + length r.cells) rs

-- the rows written over the front of the slices
pub record ListsRows (rs : List Row) (line₀ span₀ rows₀ row₀ end₀ line span rows row end : List ℕ) : Type 0 where
  pub lines : line ≡ over (map cell_line (all_cells rs)) line₀
  pub spans : span ≡ over (map cell_cols (all_cells rs)) span₀
  pub rowspans : rows ≡ over (map cell_rows (all_cells rs)) rows₀
  pub row_lines : row ≡ over (map written_line rs) row₀
  pub ends : end ≡ over (cell_ends 0 rs) end₀

-- what listing the rows of the table at the place `at` takes: a line is at most one deeper than the line before it, a cell's cols are as they
-- are written, and each lent slice has a place for each line from the table's on
pub record ListRowsPre (ks : List NodeRecord) (at : ℕ) (line span rows row end : List ℕ) : Type 0 where
  pub within : at < length ks
  pub short : length ks ≤ max_lines
  pub shallow : (get_or ks at no_node).depth ≤ max_depth
  pub step : (k : ℕ) → k + 1 < length ks → (get_or ks (k + 1) no_node).depth ≤ (get_or ks k no_node).depth + 1
  pub narrow : (k : ℕ) → (get_or ks k no_node).cols ≤ max_cols
  pub line_capacity : length ks ≤ at + length line
  pub span_capacity : length ks ≤ at + length span
  pub rows_capacity : length ks ≤ at + length rows
  pub row_capacity : length ks ≤ at + length row
  pub end_capacity : length ks ≤ at + length end

-- the rows are written, and counted with their cells
pub record ListRowsPost (rs : List Row) (line₀ span₀ rows₀ row₀ end₀ line span rows row end : List ℕ) (cells count : ℕ) : Type 0 where
  pub written : ListsRows rs line₀ span₀ rows₀ row₀ end₀ line span rows row end
  pub cells_are : cells ≡ length (all_cells rs)
  pub rows_are : count ≡ length rs
