-- The rows of a table by positions, each with what hangs into it.
use Rattle.std.specs.Prelude.{Bool, false, ◌||◌, List, [], ◌∷◌, map, ℕ, ◌+◌, ltb, length}
use Rattle.common.specs.Limits.{max_position}
use Rattle.resolved_rows.specs.Cells as cells
use Rattle.grid_row.specs.Row.{Item, item_of, items_end, row_from, nexts}

-- a row by positions: its line and its entries
pub record PositionRow : Type 0 where
  pub line : ℕ
  pub items : List Item

abbrev pub row : ℕ → List Item → PositionRow
row line items = record { line = line; items = items }

-- the rows, with hs hanging into the first
unfoldable pub originals : List Item → List cells.Row → List PositionRow
originals hs [] = []
originals hs (r ∷ rs) =
    row r.line (row_from 0 hs (map item_of r.cells)) ∷ originals (nexts (row_from 0 hs (map item_of r.cells))) rs

-- what hangs below the last row; nothing does below a body's last (proofs/Bodies)
unfoldable pub hang_below : List Item → List cells.Row → List Item
hang_below hs [] = hs
hang_below hs (r ∷ rs) = hang_below (nexts (row_from 0 hs (map item_of r.cells))) rs

-- a table's rows, of its resolved rows
abbrev pub all_rows : List cells.Row → List PositionRow
all_rows table = originals [] table

-- 5: a row ends past position 4,096
unfoldable pub ends_past : List PositionRow → Bool
ends_past [] = false
ends_past (r ∷ rs) = ltb max_position (items_end r.items) || ends_past rs

-- 6: more than 8,192 entries
unfoldable pub entry_count : List PositionRow → ℕ
entry_count [] = 0
entry_count (r ∷ rs) = length r.items + entry_count rs
