-- A case of two tables side by side laid out, computed from the definitions: the rows of grid_join's first case, where every cell has the size 4 and the
-- least width 2.
use Rattle.std.specs.Prelude.{◌≡◌, refl, false, List, [], ◌∷◌, ℕ, replicate}
use Rattle.common.specs.Lists.{sum}
use Rattle.records.specs.NodeRecord.{no_node}
use Rattle.columns.specs.Boxes.{Box, box, flat}
use Rattle.columns.specs.Columns.{largest_at, up_to}
use Rattle.grid.specs.Grid.{Entry, entry}
use Rattle.estimates.specs.Estimates.{estimate, measured_node, box_of, box_rows}
use Rattle.cutting.specs.Cut.{pick, cut_once, cut_by, cut}
use Rattle.widths.specs.Share.{share, shares_of}
use Rattle.widths.specs.Widths.{way_of, final_widths}
use Rattle.placement.specs.Place.{at, place_side, place_row, place_rows}
use Rattle.table_layout.specs.Laying.{widths_in, places_in}
use Rattle.grid_join.specs.Joined.{end_from, row_with, joined}

abbrev cell : ℕ → ℕ → Entry
cell line first = entry line false first 1

abbrev rows : List (List Box)
rows =
    box_rows 0 (replicate 16 (measured_node no_node (estimate 4 2 0)))
    (joined 2 2 (row_with 4 (cell 5 0 ∷ cell 6 1 ∷ []) ∷ row_with 7 (cell 8 0 ∷ []) ∷ [])
    (row_with 11 (cell 12 0 ∷ cell 13 1 ∷ []) ∷ row_with 14 (cell 15 0 ∷ []) ∷ row_with 16 [] ∷ []))

-- an empty entry takes no room of its own
rows_are : rows
    ≡ (box 0 1 4 2 ∷ box 1 1 4 2 ∷ box 2 1 4 2 ∷ box 3 1 4 2 ∷ [])
    ∷ (box 0 1 4 2 ∷ box 1 1 0 0 ∷ box 2 1 4 2 ∷ [])
    ∷ (box 0 2 0 0 ∷ [])
    ∷ []
unfolding joined end_from box_of
rows_are = refl

places_at_20 : places_in 4 rows 0 20
    ≡ at 0 4 ∷ at 5 4 ∷ at 10 4 ∷ at 15 4 ∷ at 0 4 ∷ at 5 4 ∷ at 10 4 ∷ at 0 9 ∷ []
unfolding joined end_from box_of flat up_to largest_at sum way_of final_widths share shares_of cut cut_by place_rows place_row place_side
places_at_20 = refl

-- the leasts and their gaps take 11: one character less, and it goes down the page
widths_at_11 : widths_in 4 rows 0 11 ≡ 2 ∷ 2 ∷ 2 ∷ 2 ∷ []
unfolding joined end_from box_of flat up_to largest_at sum way_of final_widths share shares_of cut cut_by cut_once pick
widths_at_11 = refl

widths_at_10 : widths_in 4 rows 0 10 ≡ 10 ∷ 10 ∷ 10 ∷ 10 ∷ []
unfolding joined end_from box_of flat up_to largest_at sum way_of final_widths
widths_at_10 = refl
