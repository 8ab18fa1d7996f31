-- The table of the cases that are asked to be proved, about the definitions, in the order in which they are asked.
use Rattle.std.specs.Prelude.{◌≡◌, refl, true, false, List, [], ◌∷◌, ℕ, Ok}
use Rattle.common.specs.Lists.{sum, mem}
use Rattle.common.specs.Refusals.{verdict_of, first_answer}
use Rattle.text.specs.Bytes.{class_of}
use Rattle.text.specs.Text.{measure_of, text_size, readable, trim_start, trim_end, widths, runs, begins}
use Rattle.text.specs.Decimal.{digits_in, digits, writing, plain}
use Rattle.text.specs.Prefix.{last_number, ol_prefix}
use Rattle.kinds.specs.Words.{word}
use Rattle.column_edges.specs.Edges.{count_below, ends_from}
use Rattle.resolved_rows.specs.Cells as cells
use Rattle.resolved_rows.specs.Cells.{cell, row_sum, widest, resolve_row, fill_body, cut_row, cut_body, resolve_body, resolved}
use Rattle.grid_row.specs.Row.{fillers, later, row_from, hang_of, nexts}
use Rattle.grid_positions.specs.Positions.{entry_count, originals, ends_past}
use Rattle.grid.specs.Grid.{entry, ends_of, entries_from, longest, grid_of, columns_of, table_checks}
use Rattle.cutting.specs.Cut.{pick, cut_once, cut_by, cut}
use Rattle.widths.specs.Share.{share, shares_of}
use Rattle.widths.specs.Widths.{way_of, final_widths, nonzero, table_width}
use Rattle.answers.specs.declared.Way.TheVariants.{Sideways, Down}

-- " a  b ", wrap 3: 4,3
pub text_inner_run : measure_of (word " a  b ") 3 false ≡ Ok (record { size = 4; least = 3; prefix = 0 })
unfolding measure_of first_answer text_size class_of readable trim_start trim_end widths runs begins
text_inner_run = refl

-- "   ": 0,0
pub text_spaces : measure_of (word "   ") 3 false ≡ Ok (record { size = 0; least = 0; prefix = 0 })
unfolding measure_of first_answer text_size class_of readable trim_start trim_end widths runs begins
text_spaces = refl

-- img of nothing, wrap 3: 2,2
pub img_nothing : measure_of [] 3 true ≡ Ok (record { size = 2; least = 2; prefix = 0 })
unfolding measure_of first_answer text_size class_of readable trim_start trim_end widths runs begins
img_nothing = refl

-- ol 0 childless: prefix 4
pub ol_childless : ol_prefix (plain 0) 0 ≡ 4
unfolding ol_prefix writing last_number digits digits_in
ol_childless = refl

-- body sums 4 (cols 1,0,2) and 6: 0 becomes 3
pub zero_resolved : resolve_body (cells.row 3 (cell 4 1 1 ∷ cell 5 0 1 ∷ cell 6 2 1 ∷ []) ∷ cells.row 7 (cell 8 6 1 ∷ []) ∷ [])
    ≡ cells.row 3 (cell 4 1 1 ∷ cell 5 3 1 ∷ cell 6 2 1 ∷ []) ∷ cells.row 7 (cell 8 6 1 ∷ []) ∷ []
unfolding resolve_body fill_body cut_body cut_row resolve_row widest row_sum sum
zero_resolved = refl

-- one row, cols 2 then cols 1 rows 2, and with cols 1 first: accepted, one row of two columns, no extra row
abbrev last_hangs : List (List cells.Row)
last_hangs = (cells.row 3 (cell 4 2 1 ∷ cell 5 1 2 ∷ []) ∷ []) ∷ []

abbrev first_hangs : List (List cells.Row)
first_hangs = (cells.row 3 (cell 4 1 2 ∷ cell 5 2 1 ∷ []) ∷ []) ∷ []

pub last_accepted : verdict_of (table_checks 1 (resolved last_hangs)) ≡ (Ok tt)
unfolding verdict_of first_answer table_checks ends_past entry_count originals sum row_from fillers later nexts hang_of resolved resolve_body fill_body resolve_row cut_body cut_row widest row_sum
last_accepted = refl

pub last_ends : grid_of (resolved last_hangs) ≡ record { line = 3; entries = entry 4 false 0 1 ∷ entry 5 false 1 1 ∷ [] } ∷ []
unfolding grid_of originals entries_from ends_of ends_from count_below sum mem row_from fillers later nexts hang_of resolved resolve_body fill_body resolve_row cut_body cut_row widest row_sum
last_ends = refl

pub first_accepted : verdict_of (table_checks 1 (resolved first_hangs)) ≡ (Ok tt)
unfolding verdict_of first_answer table_checks ends_past entry_count originals sum row_from fillers later nexts hang_of resolved resolve_body fill_body resolve_row cut_body cut_row widest row_sum
first_accepted = refl

pub first_ends : grid_of (resolved first_hangs) ≡ record { line = 3; entries = entry 4 false 0 1 ∷ entry 5 false 1 1 ∷ [] } ∷ []
unfolding grid_of originals entries_from ends_of ends_from count_below sum mem row_from fillers later nexts hang_of resolved resolve_body fill_body resolve_row cut_body cut_row widest row_sum
first_ends = refl

-- rows 0 runs to its body's last row: a filler below, none in the next body
pub rows_zero : grid_of (resolved ((cells.row 3 (cell 4 1 0 ∷ []) ∷ cells.row 5 (cell 6 1 1 ∷ []) ∷ []) ∷ (cells.row 8 (cell 9 1 1 ∷ []) ∷ []) ∷ []))
    ≡ record { line = 3; entries = entry 4 false 0 1 ∷ [] }
    ∷ record { line = 5; entries = entry 4 true 0 1 ∷ entry 6 false 1 1 ∷ [] }
    ∷ record { line = 8; entries = entry 9 false 0 1 ∷ [] }
    ∷ []
unfolding grid_of originals entries_from ends_of ends_from count_below sum mem row_from fillers later nexts hang_of resolved resolve_body fill_body resolve_row cut_body cut_row widest row_sum
rows_zero = refl

-- row cols 3, row cols 1 and 2: 2 columns
pub two_columns : columns_of (cells.row 3 (cell 4 3 1 ∷ []) ∷ cells.row 5 (cell 6 1 1 ∷ cell 7 2 1 ∷ []) ∷ []) ≡ 2
unfolding columns_of longest originals ends_of ends_from count_below sum mem row_from fillers later nexts hang_of
two_columns = refl

-- the final widths of columns of these sizes and leasts at a width, raw off: the way is chosen
abbrev final : List ℕ → List ℕ → ℕ → List ℕ
final sizes leasts width = final_widths (way_of 0 width leasts) sizes leasts width

-- (size,least) (10,3),(2,2), width 9: 6,2
pub cut_six_two : final (10 ∷ 2 ∷ []) (3 ∷ 2 ∷ []) 9 ≡ 6 ∷ 2 ∷ []
unfolding way_of final_widths share shares_of sum cut cut_by cut_once pick
cut_six_two = refl

-- (10,3),(10,3), 20: 9,10
pub cut_nine_ten : final (10 ∷ 10 ∷ []) (3 ∷ 3 ∷ []) 20 ≡ 9 ∷ 10 ∷ []
unfolding way_of final_widths share shares_of sum cut cut_by cut_once pick
cut_nine_ten = refl

-- (10,3),(12,5), 22: 10,11
pub cut_ten_eleven : final (10 ∷ 12 ∷ []) (3 ∷ 5 ∷ []) 22 ≡ 10 ∷ 11 ∷ []
unfolding way_of final_widths share shares_of sum cut cut_by cut_once pick
cut_ten_eleven = refl

-- (3,3),(3,3): width 7 sideways, 6 down
pub seven_sideways : way_of 0 7 (3 ∷ 3 ∷ []) ≡ Sideways
unfolding way_of sum
seven_sideways = refl

pub six_down : way_of 0 6 (3 ∷ 3 ∷ []) ≡ Down
unfolding way_of sum
six_down = refl

-- (4,0),(400,3), 80: 0,79, table width 79
pub zero_and_seventy_nine : final (4 ∷ 400 ∷ []) (0 ∷ 3 ∷ []) 80 ≡ 0 ∷ 79 ∷ []
unfolding way_of final_widths share shares_of sum cut cut_by cut_once pick
zero_and_seventy_nine = refl

pub seventy_nine_wide : table_width (way_of 0 80 (0 ∷ 3 ∷ [])) (final (4 ∷ 400 ∷ []) (0 ∷ 3 ∷ []) 80) 80 ≡ 79
unfolding way_of final_widths share shares_of sum cut cut_by cut_once pick table_width nonzero
seventy_nine_wide = refl
