-- The cases that a class remembers, computed from the definitions: as rows of boxes, each with its first column, span, size and least width.
use Rattle.std.specs.Prelude.{◌≡◌, refl, List, [], ◌∷◌, ℕ, take}
use Rattle.common.specs.Lists.{sum}
use Rattle.text.specs.Bytes.{class_of}
use Rattle.text.specs.Text.{text_size, trim_start, trim_end, widths, runs, begins}
use Rattle.columns.specs.Boxes.{Box, box, flat}
use Rattle.columns.specs.Columns.{size_of, least_of, largest_at, up_to, largest}
use Rattle.cutting.specs.Cut.{pick, cut_once, cut_by, cut}
use Rattle.widths.specs.Share.{share, shares_of}
use Rattle.widths.specs.Widths.{way_of, final_widths}
use Rattle.placement.specs.Place.{Placed, at, place_side, place_down, place_row, place_rows}

-- where the entries of rows of so many columns stand at this width, not raw
abbrev places : ℕ → List (List Box) → ℕ → List Placed
places columns rows width =
    place_rows (way_of 0 width (largest least_of (flat rows) columns))
    (final_widths (way_of 0 width (largest least_of (flat rows) columns)) (largest size_of (flat rows) columns) (largest least_of (flat rows) columns) width)
    width rows

-- those of the first row, of so many entries
abbrev first : ℕ → ℕ → List (List Box) → ℕ → List Placed
first entries columns rows width = take entries (places columns rows width)

-- ---- a wider page can lose cells: at wrap 3 a text of 12 characters beside one of 8, each over four columns, and eight empty cells below

abbrev pub pair : List (List Box)
pair =
    (box 0 4 12 3 ∷ box 4 4 8 3 ∷ [])
    ∷ (box 0 1 0 0 ∷ box 1 1 0 0 ∷ box 2 1 0 0 ∷ box 3 1 0 0 ∷ box 4 1 0 0 ∷ box 5 1 0 0 ∷ box 6 1 0 0 ∷ box 7 1 0 0 ∷ [])
    ∷ []

-- 6 characters do not hold the seven gaps: the table goes down, and both texts are printed
pub pair_at_6 : first 2 8 pair 6 ≡ at 0 6 ∷ at 0 6 ∷ []
unfolding flat up_to largest_at sum way_of final_widths share shares_of cut cut_by cut_once pick place_rows place_row place_side place_down
pair_at_6 = refl

-- 7 hold the gaps and nothing else: both are missing
pub pair_at_7 : first 2 8 pair 7 ≡ at 0 0 ∷ at 0 0 ∷ []
unfolding flat up_to largest_at sum way_of final_widths share shares_of cut cut_by cut_once pick place_rows place_row place_side place_down
pair_at_7 = refl

-- at 9 the first is printed alone
pub pair_at_9 : first 2 8 pair 9 ≡ at 0 5 ∷ at 6 0 ∷ []
unfolding flat up_to largest_at sum way_of final_widths share shares_of cut cut_by cut_once pick place_rows place_row place_side place_down
pair_at_9 = refl

-- and at 10 the second alone
pub pair_at_10 : first 2 8 pair 10 ≡ at 0 0 ∷ at 0 6 ∷ []
unfolding flat up_to largest_at sum way_of final_widths share shares_of cut cut_by cut_once pick place_rows place_row place_side place_down
pair_at_10 = refl

-- ---- the damp remark: of this size at wrap 3, over five columns, beside a description of 400, and six empty cells below, at the width 80

abbrev pub remark : ℕ → List (List Box)
remark size =
    (box 0 1 400 3 ∷ box 1 5 size 3 ∷ [])
    ∷ (box 0 1 0 0 ∷ box 1 1 0 0 ∷ box 2 1 0 0 ∷ box 3 1 0 0 ∷ box 4 1 0 0 ∷ box 5 1 0 0 ∷ [])
    ∷ []

-- 29 characters are missing: each column has the size 5, and 5 times 80 is below the total of 425
pub remark_of_29 : first 2 6 (remark 29) 80 ≡ at 0 75 ∷ at 76 0 ∷ []
unfolding flat up_to largest_at sum way_of final_widths share shares_of cut cut_by cut_once pick place_rows place_row place_side place_down
remark_of_29 = refl

-- 30 are printed: each column has the size 6, and 6 times 80 is above 430
pub remark_of_30 : first 2 6 (remark 30) 80 ≡ at 0 70 ∷ at 71 9 ∷ []
unfolding flat up_to largest_at sum way_of final_widths share shares_of cut cut_by cut_once pick place_rows place_row place_side place_down
remark_of_30 = refl

-- ---- the trailing blank: it adds nothing to a text's size

pub trailing_blank : text_size (97 ∷ 32 ∷ []) ≡ 1
unfolding class_of text_size trim_start trim_end widths runs begins
trailing_blank = refl

-- a cell of one character over two columns, and two empty cells below
abbrev pub letter : List (List Box)
letter = (box 0 2 1 1 ∷ []) ∷ (box 0 1 0 0 ∷ box 1 1 0 0 ∷ []) ∷ []

-- it is missing, since 1 / 2 is 0
pub letter_at_10 : first 1 2 letter 10 ≡ at 0 0 ∷ []
unfolding flat up_to largest_at sum way_of final_widths share shares_of cut cut_by cut_once pick place_rows place_row place_side place_down
letter_at_10 = refl
