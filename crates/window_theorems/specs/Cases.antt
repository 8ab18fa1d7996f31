-- Cases of the call `window`, computed from the definitions: whole sheets from their bytes, the damp sheet at four widths and one of which a filler is
-- missing; and what is refused for the list, whatever the sheet is.
use Rattle.std.specs.Prelude.{◌≡◌, refl, List, [], ◌∷◌, ◌++◌, ℕ, replicate, Err, Ok}
use Prim.Native.String.{String}
use Rattle.common.specs.Lists.{sum, mem}
use Rattle.common.specs.Refusals.{first_answer, refusal}
use Rattle.common.specs.declared.Reason.TheVariants.{Setting, ShortBuffer, WidthList}
use Rattle.text.specs.Bytes.{class_of}
use Rattle.text.specs.Text.{text_size, readable, trim_start, trim_end, widths, runs, begins}
use Rattle.text.specs.Decimal.{shifted, writing, digits, digits_in}
use Rattle.text.specs.Prefix.{last_number, ol_prefix}
use Rattle.kinds.specs.Kinds.{same, place, kind_of, kind_at, may_hold}
use Rattle.fields.specs.Lines.{feed, feeds, pieces, headed}
use Rattle.kinds.specs.Words.{word}
use Rattle.fields.specs.Numbers.{all_digits, value_from, is_natural, natural_of, negative_of, number_of}
use Rattle.fields.specs.Blanks.{until_blank}
use Rattle.line.specs.Fields.{then_number, then_kind, parse, n_fits, spans_fit, text_fits, fits, read_parsed, read_line, own_size}
use Rattle.sheet.specs.Nesting.{nearest, depth_fits, place_fits, childless}
use Rattle.sheet.specs.Sheet.{sheet_checks, lines_checks, lines_of, empty_checks, sheet_lines}
use Rattle.columns.specs.Boxes.{flat}
use Rattle.columns.specs.Columns.{up_to, sum_at, largest_at}
use Rattle.column_edges.specs.Edges.{count_below, ends_from}
use Rattle.resolved_rows.specs.Cells.{frame, row_sum, widest, resolve_row, fill_body, cut_row, cut_body, resolve_body, resolved}
use Rattle.resolved_rows.specs.Listed.{table_rows}
use Rattle.grid_row.specs.Row.{fillers, later, row_from, hang_of, nexts}
use Rattle.grid_positions.specs.Positions.{entry_count, originals, ends_past}
use Rattle.grid.specs.Grid.{ends_of, entries_from, longest, grid_of, columns_of, table_checks, tables_checks}
use Rattle.estimates.specs.Estimates.{measured, estimate_of, leaf_of, holder_of, gather, prefix_of, box_of, tabled}
use Rattle.cutting.specs.Cut.{pick, cut_once, cut_by, cut}
use Rattle.widths.specs.Share.{share, shares_of}
use Rattle.widths.specs.Widths.{way_of, final_widths, nonzero, table_width}
use Rattle.answers.specs.Numbers.{way_number}
use Rattle.placement.specs.Place.{place_side, place_down, place_row, place_rows}
use Rattle.causes.specs.Causes.{missing_from}
use Rattle.sheet_load.specs.Opening.{is_table}
use Rattle.arguments.specs.Arguments.{any_above, any_shorter}
use Rattle.call_window.specs.Window.{window_of, ways_at, table_widths_at, missing_counts_at}

-- a text as a line of a sheet
abbrev line : String → List ℕ
line s = word s ++ (feed ∷ [])

-- the damp sheet, as in examples/damp-missing.in; its description has 400 characters
abbrev wall : String
wall = "The north wall of the living room shows rising damp to a height of one metre; readings were taken at five points and the plaster is loose. "

abbrev pub damp_sheet : List ℕ
damp_sheet =
    line "depth kind n cols rows text"
    ++ line "0 table 0 0 0 "
    ++ line "1 body 0 0 0 "
    ++ line "2 row 0 0 0 "
    ++ line "3 cell 0 1 1 "
    ++ word "4 text 0 0 0 "
    ++ word wall
    ++ word wall
    ++ line "The north wall of the living room shows rising damp to a height of one metre; readings were taken at five points and the p"
    ++ line "3 cell 0 5 1 "
    ++ line "4 text 0 0 0 damp found"
    ++ line "2 row 0 0 0 "
    ++ line "3 cell 0 1 1 "
    ++ line "3 cell 0 1 1 "
    ++ line "3 cell 0 1 1 "
    ++ line "3 cell 0 1 1 "
    ++ line "3 cell 0 1 1 "
    ++ line "3 cell 0 1 1 "

-- a cell without content over two rows, beside `ab` and `cd`: it is missing, and so is the filler that continues it
abbrev pub hanging_sheet : List ℕ
hanging_sheet =
    line "depth kind n cols rows text"
    ++ line "0 table 0 0 0 "
    ++ line "1 body 0 0 0 "
    ++ line "2 row 0 0 0 "
    ++ line "3 cell 0 1 2 "
    ++ line "3 cell 0 1 1 "
    ++ line "4 text 0 0 0 ab"
    ++ line "2 row 0 0 0 "
    ++ line "3 cell 0 1 1 "
    ++ line "4 text 0 0 0 cd"

-- the table in line 1 of both, at wrap 3, not raw
pub record Traced : Type 0 where
  -- a line for each of four widths
  pub damp_answer : window_of damp_sheet 1 3 0 (5 ∷ 80 ∷ 204 ∷ 205 ∷ []) (4 ∷ 4 ∷ 4 ∷ []) ≡ Ok 4
  -- its least widths and gaps take 8: at 5 it goes down
  pub damp_ways : ways_at damp_sheet 1 3 0 (5 ∷ 80 ∷ 204 ∷ 205 ∷ []) ≡ 1 ∷ 0 ∷ 0 ∷ 0 ∷ []
  pub damp_wides : table_widths_at damp_sheet 1 3 0 (5 ∷ 80 ∷ 204 ∷ 205 ∷ []) ≡ 5 ∷ 75 ∷ 199 ∷ 205 ∷ []
  -- at 80 and 204 the remark is missing, and five of the empty cells with it
  pub damp_missings : missing_counts_at damp_sheet 1 3 0 (5 ∷ 80 ∷ 204 ∷ 205 ∷ []) ≡ 0 ∷ 6 ∷ 6 ∷ 0 ∷ []
  -- at 2 it goes down, and nothing is missing; at 10 the cell and its filler are
  pub hanging_answer : window_of hanging_sheet 1 3 0 (2 ∷ 10 ∷ []) (2 ∷ 2 ∷ 2 ∷ []) ≡ Ok 2
  pub hanging_missings : missing_counts_at hanging_sheet 1 3 0 (2 ∷ 10 ∷ []) ≡ 0 ∷ 2 ∷ []

pub traced : Traced
unfolding sum mem first_answer class_of text_size readable trim_start trim_end widths runs begins shifted writing digits digits_in last_number ol_prefix same place kind_of kind_at may_hold feeds pieces headed all_digits value_from is_natural natural_of negative_of number_of until_blank then_number then_kind parse n_fits spans_fit text_fits fits read_parsed read_line own_size nearest depth_fits place_fits childless sheet_checks lines_checks lines_of empty_checks sheet_lines flat up_to sum_at largest_at count_below ends_from frame row_sum widest resolve_row resolve_body resolved table_rows fillers later row_from hang_of nexts originals ends_of entries_from longest grid_of columns_of ends_past entry_count table_checks tables_checks measured estimate_of leaf_of holder_of gather prefix_of box_of tabled pick cut_once cut_by cut share shares_of way_of final_widths nonzero table_width place_side place_down place_row place_rows fill_body cut_body cut_row way_number missing_from any_above any_shorter is_table window_of
traced =
    record {
      damp_answer = refl;
      damp_ways = refl;
      damp_wides = refl;
      damp_missings = refl;
      hanging_answer = refl;
      hanging_missings = refl;
    }

-- ---- what is refused for the list, of any sheet and line

-- no width is 16, whatever the other arguments are
pub none_tried : (s : List ℕ) (line wrap raw : ℕ) (buffers : List ℕ) → window_of s line wrap raw [] buffers ≡ Err (refusal WidthList 0)
unfolding first_answer window_of
none_tried s line wrap raw buffers = refl

-- and so are 1,025
pub too_many : (s : List ℕ) (line wrap raw : ℕ) (buffers : List ℕ) → window_of s line wrap raw (replicate 1025 80) buffers ≡ Err (refusal WidthList 0)
unfolding first_answer window_of
too_many s line wrap raw buffers = refl

-- so with wrap 2,000 and buffers without a place
pub too_many_at_2000 : (s : List ℕ) (line : ℕ) → window_of s line 2000 0 (replicate 1025 80) (0 ∷ 0 ∷ 0 ∷ []) ≡ Err (refusal WidthList 0)
too_many_at_2000 s line = too_many s line 2000 0 (0 ∷ 0 ∷ 0 ∷ [])

-- a width of 65,536 at place 3 is 9, before a short buffer is looked at
pub too_wide : (s : List ℕ) (line : ℕ) → window_of s line 3 0 (70 ∷ 80 ∷ 90 ∷ 65536 ∷ 110 ∷ []) (0 ∷ 0 ∷ 0 ∷ []) ≡ Err (refusal Setting 0)
unfolding first_answer window_of any_above
too_wide s line = refl

-- a place less than 1,024 widths need is 11
pub one_short : (s : List ℕ) (line : ℕ) → window_of s line 3 0 (replicate 1024 80) (1024 ∷ 1024 ∷ 1023 ∷ []) ≡ Err (refusal ShortBuffer 0)
unfolding first_answer window_of any_above any_shorter
one_short s line = refl

-- 1,024 of the largest widths, each buffer with a place for each
pub all_fit : window_of hanging_sheet 1 1000 1 (replicate 1024 65535) (1024 ∷ 1024 ∷ 1024 ∷ []) ≡ Ok 1024
unfolding sum mem first_answer class_of text_size readable trim_start trim_end widths runs begins shifted writing digits digits_in last_number ol_prefix same place kind_of kind_at may_hold feeds pieces headed all_digits value_from is_natural natural_of negative_of number_of until_blank then_number then_kind parse n_fits spans_fit text_fits fits read_parsed read_line own_size nearest depth_fits place_fits childless sheet_checks lines_checks lines_of empty_checks sheet_lines flat up_to sum_at largest_at count_below ends_from frame row_sum widest resolve_row resolve_body resolved table_rows fillers later row_from hang_of nexts originals ends_of entries_from longest grid_of columns_of ends_past entry_count table_checks tables_checks measured estimate_of leaf_of holder_of gather prefix_of box_of tabled pick cut_once cut_by cut share shares_of way_of final_widths nonzero table_width place_side place_down place_row place_rows fill_body cut_body cut_row way_number missing_from any_above any_shorter is_table window_of
all_fit = refl
