-- Two tables of one sheet side by side, by the places of their lines: the joined grid, its columns, its refusals, its boxes.
use Rattle.std.specs.Prelude.{List, ℕ, ◌+◌}
use Rattle.common.specs.Refusals.{Check}
use Rattle.records.specs.declared.NodeRecord.{NodeRecord}
use Rattle.columns.specs.Boxes.{Box}
use Rattle.resolved_rows.specs.Listed.{table_rows}
use Rattle.grid.specs.Grid.{GridRow, grid_of, columns_of}
use Rattle.estimates.specs.Estimates.{measured, box_rows}
use Rattle.grid_join.specs.Joined.{joined, joined_checks}

-- the columns of both
abbrev pub both_columns : List NodeRecord → ℕ → ℕ → ℕ
both_columns ks l r = columns_of (table_rows ks l) + columns_of (table_rows ks r)

abbrev pub joined_grid : List NodeRecord → ℕ → ℕ → List GridRow
joined_grid ks l r = joined (columns_of (table_rows ks l)) (columns_of (table_rows ks r)) (grid_of (table_rows ks l)) (grid_of (table_rows ks r))

-- 5 and 6, on the line of the left table: line l + 1 stands at the place l
abbrev pub both_checks : List NodeRecord → ℕ → ℕ → List Check
both_checks ks l r = joined_checks (l + 1) (columns_of (table_rows ks l)) (columns_of (table_rows ks r)) (grid_of (table_rows ks l)) (grid_of (table_rows ks r))

-- its rows of boxes: the entries with the estimates of their cells, which are among those of all lines
abbrev pub joined_boxes : ℕ → List NodeRecord → ℕ → ℕ → List (List Box)
joined_boxes wrap ks l r = box_rows 0 (measured wrap 1 ks) (joined_grid ks l r)
