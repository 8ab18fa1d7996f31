-- A case of laying out, computed from the definitions: a table in line 1 whose cells stand in lines 4, with two texts,
-- and 7; the first lies over two rows.
use Rattle.std.specs.Prelude.{◌≡◌, refl, List, [], ◌∷◌}
use Rattle.common.specs.Lists.{sum}
use Rattle.columns.specs.Boxes.{Box, box, flat}
use Rattle.columns.specs.inner.Boxes.{rows_by}
use Rattle.columns.specs.Columns.{largest_at, up_to}
use Rattle.estimates.specs.Estimates.{estimate}
use Rattle.grid_build.specs.inner.Records.{entry, row}
use Rattle.cutting.specs.Cut.{pick, cut_once, cut_by, cut}
use Rattle.widths.specs.Share.{share, shares_of}
use Rattle.widths.specs.Widths.{way_of, final_widths}
use Rattle.placement.specs.Place.{at, place_side, place_row, place_rows}
use Rattle.table_layout.specs.Laying.{widths_in, places_in}
use Rattle.table_layout.specs.inner.Laying.{box_rows_by}

-- the figures are those of lines 4 and 7; the filler has none
abbrev rows : List (List Box)
rows =
    box_rows_by (row 3 2 ∷ row 6 3 ∷ []) (entry 4 0 1 ∷ entry 7 1 1 ∷ entry 0 0 1 ∷ [])
    (estimate 7 6 0 ∷ estimate 0 0 0 ∷ estimate 0 0 0 ∷ estimate 4 3 0 ∷ estimate 1 1 0 ∷ estimate 3 3 0 ∷ estimate 2 2 0 ∷ estimate 2 2 0 ∷ [])

rows_are : rows ≡ (box 0 1 4 3 ∷ box 1 1 2 2 ∷ []) ∷ (box 0 1 0 0 ∷ []) ∷ []
unfolding box_rows_by rows_by
rows_are = refl

-- at a width that holds everything, and one character below the sizes and their gap
widths_at_80 : widths_in 2 rows 0 80 ≡ 4 ∷ 2 ∷ []
unfolding box_rows_by rows_by flat up_to largest_at sum way_of final_widths share shares_of cut cut_by
widths_at_80 = refl

places_at_80 : places_in 2 rows 0 80 ≡ at 0 4 ∷ at 5 2 ∷ at 0 4 ∷ []
unfolding box_rows_by rows_by flat up_to largest_at sum way_of final_widths share shares_of cut cut_by place_rows place_row place_side
places_at_80 = refl

widths_at_6 : widths_in 2 rows 0 6 ≡ 3 ∷ 2 ∷ []
unfolding box_rows_by rows_by flat up_to largest_at sum way_of final_widths share shares_of cut cut_by cut_once pick
widths_at_6 = refl
