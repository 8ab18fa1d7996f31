-- Cases of the call `spoken`, computed from the definitions: a whole sheet from its bytes, and owners in rows of a table.
use Rattle.std.specs.Prelude.{◌≡◌, refl, List, [], ◌∷◌, ◌++◌, ℕ, None, Some, Ok, Err, Option, Result}
use Prim.Native.String.{String}
use Rattle.common.specs.Lists.{sum, mem}
use Rattle.common.specs.Refusals.{first_answer, refusal}
use Rattle.common.specs.declared.Refusal.{Refusal}
use Rattle.common.specs.declared.Reason.TheVariants.{NoTable}
use Rattle.text.specs.Bytes.{class_of}
use Rattle.text.specs.Text.{readable, trim_start, trim_end}
use Rattle.text.specs.Decimal.{shifted}
use Rattle.kinds.specs.Kinds.{same, place, kind_of, kind_at, may_hold}
use Rattle.kinds.specs.Words.{word}
use Rattle.fields.specs.Lines.{feed, feeds, pieces, headed}
use Rattle.fields.specs.Numbers.{all_digits, value_from, is_natural, natural_of, negative_of, number_of}
use Rattle.fields.specs.Blanks.{until_blank}
use Rattle.line.specs.Fields.{then_number, then_kind, parse, n_fits, spans_fit, text_fits, fits, read_parsed, read_line}
use Rattle.sheet.specs.Nesting.{nearest, depth_fits, place_fits, childless}
use Rattle.sheet.specs.Sheet.{sheet_checks, lines_checks, lines_of, empty_checks, sheet_lines}
use Rattle.column_edges.specs.Edges.{count_below, ends_from}
use Rattle.resolved_rows.specs.Cells as cells
use Rattle.resolved_rows.specs.Cells.{cell, frame, row_sum, widest, resolve_row, fill_body, cut_row, cut_body, resolve_body, resolved}
use Rattle.resolved_rows.specs.Listed.{table_rows}
use Rattle.grid_row.specs.Row.{fillers, later, row_from, hang_of, nexts}
use Rattle.grid_positions.specs.Positions.{entry_count, originals, ends_past}
use Rattle.grid.specs.Grid.{ends_of, entries_from, grid_of, entries_of, table_checks, tables_checks}
use Rattle.answers.specs.declared.Part.{Part}
use Rattle.sheet_load.specs.Opening.{is_table}
use Rattle.owners.specs.Owner.{filler_owner}
use Rattle.spoken_text.specs.Text.{first_text, text_part, part_for, part_with}
use Rattle.call_spoken.specs.Spoken.{is_none, part_of_owner, place_of, reply}

-- a text as a line of a sheet
abbrev line : String → List ℕ
line s = word s ++ (feed ∷ [])

-- five cells that hang into the second row, the first into the third too: one with a text, one with an empty text and another, one with an image
-- alone, one with a text of two blanks, one with a table in which a text stands, and a text after the table. The entries are 0 to 4, 5 to 9, 10 and 11
abbrev pub rooms : List ℕ
rooms =
    line "depth kind n cols rows text"
    ++ line "0 table 0 0 0 "
    ++ line "1 body 0 0 0 "
    ++ line "2 row 0 0 0 "
    ++ line "3 cell 0 1 3 "
    ++ line "4 text 0 0 0 hall"
    ++ line "3 cell 0 1 2 "
    ++ line "4 text 0 0 0 "
    ++ line "4 text 0 0 0 b"
    ++ line "3 cell 0 1 2 "
    ++ line "4 img 0 0 0 x"
    ++ line "3 cell 0 1 2 "
    ++ line "4 text 0 0 0   "
    ++ line "3 cell 0 1 2 "
    ++ line "4 table 0 0 0 "
    ++ line "5 body 0 0 0 "
    ++ line "6 row 0 0 0 "
    ++ line "7 cell 0 1 1 "
    ++ line "8 text 0 0 0 in"
    ++ line "4 text 0 0 0 out"
    ++ line "2 row 0 0 0 "
    ++ line "2 row 0 0 0 "
    ++ line "3 cell 0 1 1 "

-- a wording of the caller's
abbrev pub wording : List ℕ
wording = word "blank"

abbrev no_table : Result (Option Part) Refusal
no_table = Err (refusal NoTable 0)

-- where the reply for an entry of the table in a line stands, and what is returned
abbrev at : ℕ → ℕ → Result (Option Part) Refusal
at l e = place_of rooms l e

-- where the replies stand
pub record Placed : Type 0 where
  -- the first filler continues the cell of line 4
  pub hall : at 1 5 ≡ Ok (Some (part_with 97 4))
  -- so does the one two rows below it
  pub two_below : at 1 10 ≡ Ok (Some (part_with 97 4))
  -- the first text is empty, and the second is not asked: the wording
  pub empty_first : at 1 6 ≡ Ok None
  -- an image is not spoken: the wording
  pub image : at 1 7 ≡ Ok None
  -- a text of blanks is spoken as it is
  pub blanks : at 1 8 ≡ Ok (Some (part_with 200 2))
  -- beside it the text of a table inside the cell, which comes before that of the cell
  pub nested : at 1 9 ≡ Ok (Some (part_with 286 2))
  -- a cell is refused, in the first row and after a filler
  pub cell : at 1 4 ≡ no_table
  pub cell_after : at 1 11 ≡ no_table
  -- and what is past the last entry, and a line that is no table
  pub past_last : at 1 12 ≡ no_table
  pub body : at 2 5 ≡ no_table

pub placed : Placed
unfolding sum mem first_answer class_of readable trim_start trim_end shifted same place kind_of kind_at may_hold feeds pieces headed all_digits value_from is_natural natural_of negative_of number_of until_blank then_number then_kind parse n_fits spans_fit text_fits fits read_parsed read_line nearest depth_fits place_fits childless sheet_checks lines_checks lines_of empty_checks sheet_lines count_below ends_from frame row_sum widest resolve_row fill_body cut_row cut_body resolve_body resolved table_rows fillers later row_from hang_of nexts entry_count originals ends_past ends_of entries_from grid_of entries_of table_checks tables_checks is_table filler_owner first_text text_part part_for is_none part_of_owner place_of reply
placed = record { hall = refl; two_below = refl; empty_first = refl; image = refl; blanks = refl; nested = refl; cell = refl; cell_after = refl; past_last = refl; body = refl }

-- ---- what is returned

abbrev said : ℕ → List ℕ
said e = reply rooms wording (at 1 e)

pub record Said : Type 0 where
  pub hall : said 5 ≡ word "hall"
  pub empty_first : said 6 ≡ word "blank"
  pub image : said 7 ≡ word "blank"
  pub blanks : said 8 ≡ 32 ∷ 32 ∷ []
  pub nested : said 9 ≡ word "in"
  pub two_below : said 10 ≡ word "hall"
  -- a refused call returns nothing
  pub cell : said 11 ≡ []

pub said_there : Said
unfolding sum mem first_answer class_of readable trim_start trim_end shifted same place kind_of kind_at may_hold feeds pieces headed all_digits value_from is_natural natural_of negative_of number_of until_blank then_number then_kind parse n_fits spans_fit text_fits fits read_parsed read_line nearest depth_fits place_fits childless sheet_checks lines_checks lines_of empty_checks sheet_lines count_below ends_from frame row_sum widest resolve_row fill_body cut_row cut_body resolve_body resolved table_rows fillers later row_from hang_of nexts entry_count originals ends_past ends_of entries_from grid_of entries_of table_checks tables_checks is_table filler_owner first_text text_part part_for is_none part_of_owner place_of reply
said_there = record { hall = refl; empty_first = refl; image = refl; blanks = refl; nested = refl; two_below = refl; cell = refl }

-- ---- owners where fillers stand elsewhere than their cells, by the rows of a table

-- a filler that goes on past a row in which it stands elsewhere, and stands at its cell's position again
abbrev kept_position : List cells.Row
kept_position =
    cells.row 3 (cell 4 3 1 ∷ cell 5 1 3 ∷ []) ∷ cells.row 6 (cell 7 1 1 ∷ []) ∷ cells.row 8 (cell 9 1 1 ∷ cell 10 1 1 ∷ cell 11 1 1 ∷ cell 12 1 1 ∷ []) ∷ []

-- a filler whose span is not that of its cell
abbrev other_span : List cells.Row
other_span = cells.row 3 (cell 4 1 1 ∷ cell 5 2 2 ∷ []) ∷ cells.row 6 (cell 7 3 1 ∷ []) ∷ cells.row 8 (cell 9 1 1 ∷ cell 10 1 1 ∷ cell 11 1 1 ∷ []) ∷ []

-- two fillers in the third row, the later cell's before the earlier one's
abbrev later_first : List cells.Row
later_first = cells.row 3 (cell 4 1 1 ∷ cell 5 2 3 ∷ []) ∷ cells.row 6 (cell 7 1 2 ∷ []) ∷ cells.row 8 [] ∷ []

abbrev owner : List cells.Row → ℕ → Option ℕ
owner table e = filler_owner (entries_of (grid_of table)) e

pub record Owners : Type 0 where
  pub kept_second : owner kept_position 3 ≡ Some 5
  pub kept_third : owner kept_position 7 ≡ Some 5
  pub spans : owner other_span 3 ≡ Some 5
  pub second_row : owner later_first 3 ≡ Some 5
  pub first_of_third : owner later_first 4 ≡ Some 7
  pub second_of_third : owner later_first 5 ≡ Some 5

pub owners : Owners
unfolding filler_owner entries_of grid_of originals entries_from sum row_from fillers later nexts hang_of
owners = record { kept_second = refl; kept_third = refl; spans = refl; second_row = refl; first_of_third = refl; second_of_third = refl }
