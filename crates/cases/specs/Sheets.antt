-- Whole sheets from bytes to places, about the definitions, traced by hand.
use Rattle.common.specs.declared.Reason.TheVariants.{Fields, NoExpression, OutOfBounds}
use Rattle.std.specs.Prelude.{◌≡◌, refl, List, [], ◌∷◌, ◌++◌, ℕ, Err, Ok}
use Prim.Native.String.{String}
use Rattle.common.specs.Lists.{sum, mem}
use Rattle.common.specs.Refusals.{verdict_of, first_answer, passes, refusal}
use Rattle.text.specs.Bytes.{class_of}
use Rattle.text.specs.Text.{text_size, readable, trim_start, trim_end, widths, runs, begins}
use Rattle.text.specs.Decimal.{shifted, writing, digits, digits_in}
use Rattle.text.specs.Prefix.{last_number, ol_prefix}
use Rattle.expression.specs.Tree.{result_of, both}
use Rattle.expression.specs.Grammar.{digit}
use Rattle.expression.specs.Machine.{total, wanted, operator, inner, opened, closed, step, finish, run}
use Rattle.expression.specs.Answers.{answer_by, answer_of}
use Rattle.evaluator.specs.Measures.{written, measure_by, measure_of}
use Rattle.kinds.specs.Kinds.{same, place, kind_of, kind_at, may_hold}
use Rattle.fields.specs.Lines.{feed, feeds, pieces, headed}
use Rattle.kinds.specs.Words.{word}
use Rattle.fields.specs.Numbers.{all_digits, value_from, is_natural, natural_of, negative_of, number_of}
use Rattle.fields.specs.Blanks.{until_blank}
use Rattle.line.specs.Fields.{then_number, then_kind, parse, n_fits, spans_fit, text_fits, fits, read_parsed, read_line, own_size}
use Rattle.sheet.specs.Nesting.{nearest, depth_fits, place_fits, childless}
use Rattle.sheet.specs.Sheet.{sheet_checks, lines_checks, lines_of, empty_checks, sheet_lines}
use Rattle.columns.specs.Boxes.{flat}
use Rattle.columns.specs.Columns.{up_to, sum_at, largest_at}
use Rattle.column_edges.specs.Edges.{count_below, ends_from}
use Rattle.resolved_rows.specs.Cells.{frame, row_sum, widest, resolve_row, fill_body, cut_row, cut_body, resolve_body, resolved}
use Rattle.resolved_rows.specs.Listed.{table_rows}
use Rattle.grid_row.specs.Row.{fillers, later, row_from, hang_of, nexts}
use Rattle.grid_positions.specs.Positions.{entry_count, originals, ends_past}
use Rattle.grid.specs.Grid.{ends_of, entries_from, longest, grid_of, columns_of, table_checks, tables_checks}
use Rattle.estimates.specs.Estimates.{estimate, estimates, measured, estimate_of, leaf_of, holder_of, gather, prefix_of, box_of, tabled}
use Rattle.cutting.specs.Cut.{pick, cut_once, cut_by, cut}
use Rattle.widths.specs.Share.{share, shares_of}
use Rattle.widths.specs.Widths.{way_of, final_widths, nonzero, table_width}
use Rattle.placement.specs.Place.{at, place_side, place_down, place_row, place_rows}
use Rattle.answers.specs.declared.Way.TheVariants.{Down}
use Rattle.sheet_load.specs.Opening.{nodes_of}
use Rattle.sheet_figures.specs.Figures.{way_at, widths_at, width_at, places_at}
use Rattle.sheet_figures.specs.Calls.{check_checks}

-- a text as a line of a sheet
abbrev line : String → List ℕ
line s = word s ++ (feed ∷ [])

-- a cell `abcdefghij` beside a cell `ab`
abbrev pub example : List ℕ
example =
    line "depth kind n cols rows text"
    ++ line "0 table 0 0 0 "
    ++ line "1 body 0 0 0 "
    ++ line "2 row 0 0 0 "
    ++ line "3 cell 0 1 1 "
    ++ line "4 text 0 0 0 abcdefghij"
    ++ line "3 cell 0 1 1 "
    ++ line "4 text 0 0 0 ab"

-- two bodies, two spans that end with theirs, a colspan of 0, a list and a link
abbrev pub survey : List ℕ
survey =
    line "depth kind n cols rows text"
    ++ line "0 table 0 0 0 "
    ++ line "1 body 0 0 0 "
    ++ line "2 row 0 0 0 "
    ++ line "3 cell 0 1 3 "
    ++ line "4 text 0 0 0 Room"
    ++ line "3 cell 0 0 1 "
    ++ line "4 text 0 0 0 damp survey 2024"
    ++ line "2 row 0 0 0 "
    ++ line "3 cell 0 1 1 "
    ++ line "4 text 0 0 0 north wall"
    ++ line "3 cell 0 2 1 "
    ++ line "4 ul 0 0 0 "
    ++ line "5 item 0 0 0 "
    ++ line "6 text 0 0 0  wet"
    ++ line "1 body 0 0 0 "
    ++ line "2 row 0 0 0 "
    ++ line "3 cell 0 2 2 "
    ++ line "4 link 0 0 0 "
    ++ line "5 text 0 0 0 see"

-- a sum by itself
abbrev pub reckoned : String → List ℕ
reckoned text = line "depth kind n cols rows text" ++ word "0 calc 0 0 0 " ++ line text

-- 25 lines, each one deeper than the one before: the last has depth 24
abbrev pub deepest : List ℕ
deepest =
    line "depth kind n cols rows text"
    ++ line "0 div 0 0 0 "
    ++ line "1 div 0 0 0 "
    ++ line "2 div 0 0 0 "
    ++ line "3 div 0 0 0 "
    ++ line "4 div 0 0 0 "
    ++ line "5 div 0 0 0 "
    ++ line "6 div 0 0 0 "
    ++ line "7 div 0 0 0 "
    ++ line "8 div 0 0 0 "
    ++ line "9 div 0 0 0 "
    ++ line "10 div 0 0 0 "
    ++ line "11 div 0 0 0 "
    ++ line "12 div 0 0 0 "
    ++ line "13 div 0 0 0 "
    ++ line "14 div 0 0 0 "
    ++ line "15 div 0 0 0 "
    ++ line "16 div 0 0 0 "
    ++ line "17 div 0 0 0 "
    ++ line "18 div 0 0 0 "
    ++ line "19 div 0 0 0 "
    ++ line "20 div 0 0 0 "
    ++ line "21 div 0 0 0 "
    ++ line "22 div 0 0 0 "
    ++ line "23 div 0 0 0 "
    ++ line "24 div 0 0 0 "

-- what holds of the example at wrap 3 and width 9, of the survey at wrap 3 and several widths, of sums, and of lines in lines
pub record Traced : Type 0 where
  -- it is accepted
  pub example_accepted : verdict_of (check_checks example) ≡ (Ok tt)
  -- its columns are 6 and 2
  pub example_widths : widths_at example 1 3 0 9 ≡ 6 ∷ 2 ∷ []
  -- its cells stand at 0 and 7
  pub example_places : places_at example 1 3 0 9 ≡ at 0 6 ∷ at 7 2 ∷ []
  -- it is accepted
  pub survey_accepted : verdict_of (check_checks survey) ≡ (Ok tt)
  -- with room the columns have their sizes
  pub survey_at_40 : widths_at survey 1 3 0 40 ≡ 4 ∷ 10 ∷ 8 ∷ 3 ∷ []
  -- and the table is 28 wide
  pub survey_wide_at_40 : width_at survey 1 3 0 40 ≡ 28
  -- one is cut
  pub survey_at_23 : widths_at survey 1 3 0 23 ≡ 3 ∷ 8 ∷ 7 ∷ 2 ∷ []
  -- three are cut
  pub survey_at_14 : widths_at survey 1 3 0 14 ≡ 3 ∷ 3 ∷ 3 ∷ 2 ∷ []
  -- the least widths
  pub survey_at_13 : widths_at survey 1 3 0 13 ≡ 3 ∷ 3 ∷ 2 ∷ 2 ∷ []
  -- one less goes down the page
  pub survey_down_at_12 : way_at survey 1 3 0 12 ≡ Down
  -- every entry at width 23, fillers included
  pub survey_places : places_at survey 1 3 0 23 ≡ at 0 3 ∷ at 4 16 ∷ at 0 3 ∷ at 4 8 ∷ at 13 10 ∷ at 0 12 ∷ []
  -- a sum worth 420: size 3, and at wrap 2 least 2
  pub sum_accepted : verdict_of (check_checks (reckoned "(3+4)*120/2")) ≡ (Ok tt)
  pub sum_measured : estimates 2 (nodes_of (reckoned "(3+4)*120/2")) ≡ estimate 3 2 0 ∷ []
  -- cut off, though a divisor in it is 0
  pub sum_cut_off : verdict_of (check_checks (reckoned "1/0+")) ≡ Err (refusal NoExpression 1)
  -- a divisor of 0
  pub sum_over_zero : verdict_of (check_checks (reckoned "1/0")) ≡ Err (refusal OutOfBounds 1)
  -- depth 24 passes
  pub depth_24_accepted : verdict_of (check_checks deepest) ≡ (Ok tt)
  -- one line deeper is refused for its depth, although nothing else is wrong with it
  pub depth_25_refused : verdict_of (check_checks (deepest ++ line "25 div 0 0 0 ")) ≡ Err (refusal Fields 26)

pub traced : Traced
unfolding sum mem verdict_of first_answer passes class_of text_size readable trim_start trim_end widths runs begins shifted writing digits digits_in last_number ol_prefix same place kind_of kind_at may_hold feeds pieces headed all_digits value_from is_natural natural_of negative_of number_of until_blank then_number then_kind parse n_fits spans_fit text_fits fits read_parsed read_line own_size nearest depth_fits place_fits childless sheet_checks lines_checks lines_of empty_checks sheet_lines flat up_to sum_at largest_at count_below ends_from frame row_sum widest resolve_row resolve_body resolved table_rows fillers later row_from hang_of nexts originals ends_of entries_from longest grid_of columns_of ends_past entry_count table_checks tables_checks measured estimate_of leaf_of holder_of gather prefix_of box_of tabled pick cut_once cut_by cut share shares_of way_of final_widths nonzero table_width place_side place_down place_row place_rows result_of both digit total wanted operator inner opened closed step finish run answer_by answer_of written measure_by measure_of fill_body cut_body cut_row
traced =
    record {
      example_accepted = refl;
      example_widths = refl;
      example_places = refl;
      survey_accepted = refl;
      survey_at_40 = refl;
      survey_wide_at_40 = refl;
      survey_at_23 = refl;
      survey_at_14 = refl;
      survey_at_13 = refl;
      survey_down_at_12 = refl;
      survey_places = refl;
      sum_accepted = refl;
      sum_measured = refl;
      sum_cut_off = refl;
      sum_over_zero = refl;
      depth_24_accepted = refl;
      depth_25_refused = refl;
    }
