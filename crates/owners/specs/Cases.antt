-- Cases of owners of fillers, by the definitions.
use Rattle.std.specs.Prelude.{◌≡◌, refl, List, [], ◌∷◌, None, Some}
use Rattle.common.specs.Lists.{sum}
use Rattle.resolved_rows.specs.Cells as cells
use Rattle.resolved_rows.specs.Cells.{cell, row_sum, widest, resolve_row, fill_body, cut_row, cut_body, resolve_body, resolved}
use Rattle.grid_row.specs.Row.{fillers, later, row_from, hang_of, nexts}
use Rattle.grid_positions.specs.Positions.{originals}
use Rattle.grid.specs.Grid.{entries_from, entries_of, grid_of}
use Rattle.owners.specs.Owner.{filler_owner}

-- the cell of line 4 takes the three rows of its body, of which the entries 2 and 4 are its fillers; another body follows
abbrev three_rows : List cells.Row
three_rows =
    resolved ((cells.row 3 (cell 4 1 0 ∷ cell 5 1 1 ∷ []) ∷ cells.row 6 (cell 7 1 1 ∷ []) ∷ cells.row 8 (cell 9 1 1 ∷ []) ∷ [])
    ∷ (cells.row 11 (cell 12 1 1 ∷ []) ∷ []) ∷ [])

-- a filler two rows below its owner
pub two_rows_below : filler_owner (entries_of (grid_of three_rows)) 4 ≡ Some 4
unfolding filler_owner entries_of grid_of resolved resolve_body fill_body resolve_row cut_body cut_row widest row_sum originals entries_from sum row_from fillers later nexts hang_of
two_rows_below = refl

-- the cell beside it, the cell of the next body, and past the last entry
pub not_a_filler : filler_owner (entries_of (grid_of three_rows)) 5 ≡ None
unfolding filler_owner entries_of grid_of resolved resolve_body fill_body resolve_row cut_body cut_row widest row_sum originals entries_from sum row_from fillers later nexts hang_of
not_a_filler = refl

pub body_after : filler_owner (entries_of (grid_of three_rows)) 6 ≡ None
unfolding filler_owner entries_of grid_of resolved resolve_body fill_body resolve_row cut_body cut_row widest row_sum originals entries_from sum row_from fillers later nexts hang_of
body_after = refl

pub past_last : filler_owner (entries_of (grid_of three_rows)) 7 ≡ None
unfolding filler_owner entries_of grid_of resolved resolve_body fill_body resolve_row cut_body cut_row widest row_sum originals entries_from sum row_from fillers later nexts hang_of
past_last = refl

-- two fillers side by side, of different owners
abbrev side_by_side : List cells.Row
side_by_side = cells.row 3 (cell 4 1 2 ∷ cell 5 1 2 ∷ []) ∷ cells.row 6 (cell 7 1 1 ∷ []) ∷ []

pub left_one : filler_owner (entries_of (grid_of side_by_side)) 2 ≡ Some 4
unfolding filler_owner entries_of grid_of originals entries_from sum row_from fillers later nexts hang_of
left_one = refl

pub right_one : filler_owner (entries_of (grid_of side_by_side)) 3 ≡ Some 5
unfolding filler_owner entries_of grid_of originals entries_from sum row_from fillers later nexts hang_of
right_one = refl
