-- Cases of placing, computed from the definitions.
use Rattle.std.specs.Prelude.{◌≡◌, refl, List, [], ◌∷◌, ℕ, replicate}
use Rattle.common.specs.Lists.{sum}
use Rattle.columns.specs.Boxes.{Box, box, flat}
use Rattle.columns.specs.Columns.{size_of, least_of, largest_at, up_to, largest}
use Rattle.cutting.specs.Cut.{pick, cut_once, cut_by, cut}
use Rattle.widths.specs.Share.{share, shares_of}
use Rattle.widths.specs.Widths.{way_of, final_widths}
use Rattle.answers.specs.declared.Way.TheVariants.{Sideways, Down}
use Rattle.placement.specs.Place.{Placed, at, place_side, place_down, place_row, place_rows}

-- an entry of so many columns from this one on, whatever its figures
abbrev over : ℕ → ℕ → Box
over first span = box first span 0 0

-- widths 0,5: a cell over both is 6 wide
over_both : place_row Sideways (0 ∷ 5 ∷ []) 80 (over 0 2 ∷ []) ≡ at 0 6 ∷ []
unfolding place_row place_side sum
over_both = refl

-- widths 2,0,2: the cell between is missing, and one gap lies between the others
around_missing : place_row Sideways (2 ∷ 0 ∷ 2 ∷ []) 6 (over 0 1 ∷ over 1 1 ∷ over 2 1 ∷ []) ≡ at 0 2 ∷ at 3 0 ∷ at 3 2 ∷ []
unfolding place_row place_side sum
around_missing = refl

-- every row starts at 0
two_rows : place_rows Sideways (2 ∷ 3 ∷ []) 6 ((over 0 1 ∷ over 1 1 ∷ []) ∷ (over 0 1 ∷ over 1 1 ∷ []) ∷ []) ≡ at 0 2 ∷ at 3 3 ∷ at 0 2 ∷ at 3 3 ∷ []
unfolding place_rows place_row place_side sum
two_rows = refl

-- down at the width 4: a heading over two columns is no wider than the page
down_1_2 : place_row Down (4 ∷ 4 ∷ 4 ∷ []) 4 (over 0 1 ∷ over 1 2 ∷ []) ≡ at 0 4 ∷ at 0 4 ∷ []
unfolding place_row place_down
down_1_2 = refl

-- at the width 0 everything is missing
down_at_0 : place_row Down (0 ∷ 0 ∷ 0 ∷ []) 0 (over 0 1 ∷ over 1 2 ∷ []) ≡ at 0 0 ∷ at 0 0 ∷ []
unfolding place_row place_down
down_at_0 = refl

-- raw, at the largest width of a page: cells over three columns
down_raw : place_rows (way_of 1 65535 (1 ∷ 1 ∷ 1 ∷ 1 ∷ 1 ∷ 1 ∷ [])) (replicate 6 65535) 65535 ((over 0 3 ∷ over 3 3 ∷ []) ∷ (over 0 3 ∷ []) ∷ [])
    ≡ at 0 65535 ∷ at 0 65535 ∷ at 0 65535 ∷ []
unfolding sum way_of place_rows place_row place_down
down_raw = refl

-- ---- the damp remark: a long description, and beside it a remark over five columns whose readings are empty

-- the table's rows: the readings are gone, the remark has this size and least width
abbrev damp : ℕ → ℕ → ℕ → List (List Box)
damp least size own = (box 0 1 400 least ∷ box 1 5 size own ∷ []) ∷ (box 0 1 0 0 ∷ box 1 1 0 0 ∷ box 2 1 0 0 ∷ box 3 1 0 0 ∷ box 4 1 0 0 ∷ box 5 1 0 0 ∷ []) ∷ []

-- all its entries, at this width
abbrev printed_at : ℕ → List (List Box) → List Placed
printed_at width rows =
    place_rows (way_of 0 width (largest least_of (flat rows) 6))
    (final_widths (way_of 0 width (largest least_of (flat rows) 6)) (largest size_of (flat rows) 6) (largest least_of (flat rows) 6) width)
    width rows

-- four characters at wrap 3: each of the five columns has the size 4/5 and the least width 3/5, both 0, and the remark is missing
four_characters : printed_at 80 (damp 3 4 3)
    ≡ at 0 75 ∷ at 76 0 ∷ at 0 75 ∷ at 76 0 ∷ at 76 0 ∷ at 76 0 ∷ at 76 0 ∷ at 76 0 ∷ []
unfolding flat up_to largest_at sum way_of final_widths share shares_of cut cut_by cut_once pick place_rows place_row place_side
four_characters = refl

-- ten characters at wrap 3: the least widths are 0 again, and of 80 a size of 2 beside 400 has no character
ten_characters : printed_at 80 (damp 3 10 3)
    ≡ at 0 75 ∷ at 76 0 ∷ at 0 75 ∷ at 76 0 ∷ at 76 0 ∷ at 76 0 ∷ at 76 0 ∷ at 76 0 ∷ []
unfolding flat up_to largest_at sum way_of final_widths share shares_of cut cut_by cut_once pick place_rows place_row place_side
ten_characters = refl

-- five characters at wrap 5: the remark's least width is its span, and it is printed
five_characters : printed_at 80 (damp 5 5 5)
    ≡ at 0 70 ∷ at 71 9 ∷ at 0 70 ∷ at 71 1 ∷ at 73 1 ∷ at 75 1 ∷ at 77 1 ∷ at 79 1 ∷ []
unfolding flat up_to largest_at sum way_of final_widths share shares_of cut cut_by cut_once pick place_rows place_row place_side
five_characters = refl

-- ---- a share that is cut away: (5,0),(5,4) has shares 2,4 at 5 and 3,4 at 6

cut_away_at_5 : final_widths Sideways (5 ∷ 5 ∷ []) (0 ∷ 4 ∷ []) 5 ≡ 0 ∷ 4 ∷ []
unfolding sum final_widths share shares_of cut cut_by cut_once pick
cut_away_at_5 = refl

kept_at_6 : final_widths Sideways (5 ∷ 5 ∷ []) (0 ∷ 4 ∷ []) 6 ≡ 1 ∷ 4 ∷ []
unfolding sum final_widths share shares_of cut cut_by cut_once pick
kept_at_6 = refl
