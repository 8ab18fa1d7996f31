-- Pointing into two whole sheets, computed from the definitions.
use Rattle.answers.specs.declared.Under.TheVariants.{Cell, Gap, Nothing}
use Rattle.common.specs.declared.Reason.TheVariants.{NoTable, Setting, ShortBuffer}
use Rattle.std.specs.Prelude.{◌≡◌, refl, List, [], ◌∷◌, ◌++◌, ℕ, Err, Ok}
use Prim.Native.String.{String}
use Rattle.common.specs.Lists.{sum, mem}
use Rattle.common.specs.Refusals.{first_answer, refusal}
use Rattle.text.specs.Bytes.{class_of}
use Rattle.text.specs.Text.{text_size, readable, trim_start, trim_end, widths, runs, begins}
use Rattle.text.specs.Decimal.{shifted, writing, digits, digits_in}
use Rattle.text.specs.Prefix.{last_number, ol_prefix}
use Rattle.kinds.specs.Kinds.{same, place, kind_of, kind_at, may_hold}
use Rattle.fields.specs.Lines.{feed, feeds, pieces, headed}
use Rattle.kinds.specs.Words.{word}
use Rattle.fields.specs.Numbers.{all_digits, value_from, is_natural, natural_of, negative_of, number_of}
use Rattle.fields.specs.Blanks.{until_blank}
use Rattle.line.specs.Fields.{then_number, then_kind, parse, n_fits, spans_fit, text_fits, fits, read_parsed, read_line, own_size}
use Rattle.sheet.specs.Nesting.{nearest, depth_fits, place_fits, childless}
use Rattle.sheet.specs.Sheet.{sheet_checks, lines_checks, lines_of, empty_checks, sheet_lines}
use Rattle.columns.specs.Boxes.{flat}
use Rattle.columns.specs.Columns.{up_to, sum_at, largest_at}
use Rattle.column_edges.specs.Edges.{count_below, ends_from}
use Rattle.resolved_rows.specs.Cells.{frame, row_sum, widest, resolve_row, fill_body, cut_row, cut_body, resolve_body, resolved}
use Rattle.resolved_rows.specs.Listed.{table_rows}
use Rattle.grid_row.specs.Row.{fillers, later, row_from, hang_of, nexts}
use Rattle.grid_positions.specs.Positions.{entry_count, originals, ends_past}
use Rattle.grid.specs.Grid.{ends_of, entries_from, longest, grid_of, columns_of, table_checks, tables_checks}
use Rattle.estimates.specs.Estimates.{measured, estimate_of, leaf_of, holder_of, gather, prefix_of, box_of, tabled}
use Rattle.cutting.specs.Cut.{pick, cut_once, cut_by, cut}
use Rattle.widths.specs.Share.{share, shares_of}
use Rattle.widths.specs.Widths.{way_of, final_widths, nonzero, table_width}
use Rattle.placement.specs.Place.{place_side, place_down, place_row, place_rows}
use Rattle.arguments.specs.Arguments.{any_shorter}
use Rattle.sheet_load.specs.Opening.{is_table}
use Rattle.grid.specs.Grid.{entries_of}
use Rattle.hit_test.specs.Point.{some_printed, gap_before, pointed, is_gap, gap_at, listed, joint_of}
use Rattle.answers.specs.declared.Joint.TheVariants.{Plain, Up, Down}
use Rattle.row_lookup.specs.Rows.{goes_down}
use Rattle.call_preview.specs.Preview.{pointed_of, listed_at, listed_of, joined_of}

-- a text as a line of a sheet
abbrev line : String → List ℕ
line s = word s ++ (feed ∷ [])

-- a row of three cells, of which the second is empty, above one cell over all columns: the widths are 2, 0 and 2
abbrev pub gapped : List ℕ
gapped =
    line "depth kind n cols rows text"
    ++ line "0 table 0 0 0 "
    ++ line "1 body 0 0 0 "
    ++ line "2 row 0 0 0 "
    ++ line "3 cell 0 1 1 "
    ++ line "4 text 0 0 0 ab"
    ++ line "3 cell 0 1 1 "
    ++ line "3 cell 0 1 1 "
    ++ line "4 text 0 0 0 cd"
    ++ line "2 row 0 0 0 "
    ++ line "3 cell 0 3 1 "
    ++ line "4 text 0 0 0 ef"

-- the same the other way round: a cell over two columns above two cells
abbrev pub merged : List ℕ
merged =
    line "depth kind n cols rows text"
    ++ line "0 table 0 0 0 "
    ++ line "1 body 0 0 0 "
    ++ line "2 row 0 0 0 "
    ++ line "3 cell 0 2 1 "
    ++ line "4 text 0 0 0 abcd"
    ++ line "2 row 0 0 0 "
    ++ line "3 cell 0 1 1 "
    ++ line "4 text 0 0 0 ab"
    ++ line "3 cell 0 1 1 "
    ++ line "4 text 0 0 0 cd"

-- at wrap 3 and width 9
pub record Pointings : Type 0 where
  -- the first row: a cell, the one gap, a cell whose number is 2, and nothing past it
  pub first_cell : pointed_of gapped 1 3 0 9 0 1 ≡ Ok (Cell 0)
  pub the_gap : pointed_of gapped 1 3 0 9 0 2 ≡ Ok Gap
  pub third_cell : pointed_of gapped 1 3 0 9 0 3 ≡ Ok (Cell 2)
  pub past_the_last : pointed_of gapped 1 3 0 9 0 5 ≡ Ok Nothing
  -- the second row's cell is entry 3
  pub second_row : pointed_of gapped 1 3 0 9 1 2 ≡ Ok (Cell 3)
  -- there is no third row, and at width 4 the table goes down; a line that is no table comes before both, and a setting before all
  pub no_row : pointed_of gapped 1 3 0 9 2 0 ≡ Err (refusal NoTable 0)
  pub down : pointed_of gapped 1 3 0 4 0 0 ≡ Err (refusal NoTable 0)
  pub setting_first : pointed_of gapped 2 3 2 9 9 0 ≡ Err (refusal Setting 0)
  -- both cells lie in the whole stretch, one in a shorter one, none in an empty one
  pub both_cells : listed_at gapped 1 3 0 9 0 0 5 ≡ 0 ∷ 2 ∷ []
  pub second_cell : listed_at gapped 1 3 0 9 0 1 5 ≡ 2 ∷ []
  pub no_cell : listed_at gapped 1 3 0 9 0 5 5 ≡ []
  pub two_cells : listed_of gapped 1 3 0 9 0 0 5 (8192 ∷ []) ≡ Ok 2
  pub short_buffer : listed_of gapped 1 3 0 9 0 0 5 (8191 ∷ []) ≡ Err (refusal ShortBuffer 0)
  -- a gap above; a gap below; and below the last row
  pub gap_above : joined_of gapped 1 3 0 9 0 2 ≡ Ok Up
  pub gap_below : joined_of merged 1 3 0 9 0 2 ≡ Ok Down
  pub last_row : joined_of merged 1 3 0 9 1 2 ≡ Ok Up
  pub no_gap : joined_of gapped 1 3 0 9 0 3 ≡ Ok Plain

pub pointings : Pointings
unfolding sum mem first_answer class_of text_size readable trim_start trim_end widths runs begins shifted writing digits digits_in last_number ol_prefix same place kind_of kind_at may_hold feeds pieces headed all_digits value_from is_natural natural_of negative_of number_of until_blank then_number then_kind parse n_fits spans_fit text_fits fits read_parsed read_line own_size nearest depth_fits place_fits childless sheet_checks lines_checks lines_of empty_checks sheet_lines flat up_to sum_at largest_at count_below ends_from frame row_sum widest resolve_row resolve_body fill_body cut_row cut_body resolved table_rows fillers later row_from hang_of nexts originals ends_of entries_from longest grid_of columns_of ends_past entry_count table_checks tables_checks measured estimate_of leaf_of holder_of gather prefix_of box_of tabled pick cut_once cut_by cut share shares_of way_of final_widths nonzero table_width place_side place_down place_row place_rows is_table any_shorter entries_of some_printed gap_before pointed is_gap gap_at listed joint_of goes_down pointed_of listed_of joined_of
pointings =
    record {
      first_cell = refl;
      the_gap = refl;
      third_cell = refl;
      past_the_last = refl;
      second_row = refl;
      no_row = refl;
      down = refl;
      setting_first = refl;
      both_cells = refl;
      second_cell = refl;
      no_cell = refl;
      two_cells = refl;
      short_buffer = refl;
      gap_above = refl;
      gap_below = refl;
      last_row = refl;
      no_gap = refl;
    }
