-- Walks of whole sheets, computed from the definitions.
use Rattle.std.specs.Prelude.{◌≡◌, refl, List, [], ◌∷◌, ℕ, Some, None, Ok, Err}
use Rattle.common.specs.Lists.{sum, mem}
use Rattle.common.specs.Refusals.{refusal, first_answer, verdict_of}
use Rattle.common.specs.declared.Reason.TheVariants.{TooNarrow}
use Rattle.text.specs.Decimal.{writing, digits, digits_in}
use Rattle.text.specs.Prefix.{last_number, ol_prefix}
use Rattle.kinds.specs.declared.Kind.{Kind}
use Rattle.kinds.specs.declared.Kind.TheVariants.{Text, Div, Quote, Ul, Table, Body, Row, Cell, Frag, Item}
use Rattle.records.specs.declared.NodeRecord.{NodeRecord}
use Rattle.columns.specs.Boxes.{flat}
use Rattle.columns.specs.Columns.{up_to, sum_at, largest_at}
use Rattle.column_edges.specs.Edges.{count_below, ends_from}
use Rattle.resolved_rows.specs.Cells.{frame, row_sum, widest, resolve_row, fill_body, cut_row, cut_body, resolve_body, resolved}
use Rattle.resolved_rows.specs.Listed.{table_rows}
use Rattle.grid_row.specs.Row.{fillers, later, row_from, hang_of, nexts}
use Rattle.grid_positions.specs.Positions.{originals}
use Rattle.grid.specs.Grid.{ends_of, entries_from, entries_of, longest, grid_of, columns_of}
use Rattle.estimates.specs.Estimates.{measured, estimate_of, leaf_of, holder_of, gather, prefix_of, box_of, tabled}
use Rattle.cutting.specs.Cut.{pick, cut_once, cut_by, cut}
use Rattle.widths.specs.Share.{share, shares_of}
use Rattle.widths.specs.Widths.{way_of, final_widths}
use Rattle.answers.specs.declared.Way.TheVariants.{Down}
use Rattle.table_layout.specs.Laying.{way_in}
use Rattle.table_layout.specs.Arranging.{boxes_at}
use Rattle.placement.specs.Place.{place_side, place_down, place_row, place_rows}
use Rattle.available_width.specs.Walk.{takes_off, passed_on, too_narrow, printed_in, cell_width, from_nearest, line_width, walk_to, walk, narrow_from, narrow_checks}

abbrev ln : (depth : ℕ) (kind : Kind) (cols rows own : ℕ) → NodeRecord
ln depth kind cols rows own = record { depth = depth; kind = kind; cols = cols; rows = rows; number = 1000000000; own = own }

-- a quote over a text of three characters
abbrev quoted : List NodeRecord
quoted = ln 0 Quote 0 0 0 ∷ ln 1 Text 0 0 3 ∷ []

-- a list without children; a quote over a frag; `abc` in a list in a div
abbrev bare : List NodeRecord
bare = ln 0 Ul 0 0 0 ∷ []

abbrev marked : List NodeRecord
marked = ln 0 Quote 0 0 0 ∷ ln 1 Frag 0 0 0 ∷ []

abbrev listed : List NodeRecord
listed = ln 0 Div 0 0 0 ∷ ln 1 Ul 0 0 0 ∷ ln 2 Item 0 0 0 ∷ ln 3 Text 0 0 3 ∷ []

-- a table in a quote, with the cells `abc`, an empty one, and one with a table whose only cell is `de`
abbrev tabled_in : List NodeRecord
tabled_in =
    ln 0 Quote 0 0 0 ∷ ln 1 Table 0 0 0 ∷ ln 2 Body 0 0 0 ∷ ln 3 Row 0 0 0 ∷ ln 4 Cell 1 1 0 ∷ ln 5 Text 0 0 3 ∷ ln 4 Cell 1 1 0 ∷ ln 5 Frag 0 0 0 ∷ ln 4 Cell 1 1 0
    ∷ ln 5 Table 0 0 0 ∷ ln 6 Body 0 0 0 ∷ ln 7 Row 0 0 0 ∷ ln 8 Cell 1 1 0 ∷ ln 9 Text 0 0 2 ∷ []

-- `abc` in the first cell of a table, and in its second a table with an empty cell
abbrev lost : List NodeRecord
lost =
    ln 0 Table 0 0 0 ∷ ln 1 Body 0 0 0 ∷ ln 2 Row 0 0 0 ∷ ln 3 Cell 1 1 0 ∷ ln 4 Text 0 0 3 ∷ ln 3 Cell 1 1 0 ∷ ln 4 Table 0 0 0 ∷ ln 5 Body 0 0 0 ∷ ln 6 Row 0 0 0
    ∷ ln 7 Cell 1 1 0 ∷ []

-- a table in a quote, with the cell `abc`
abbrev squeezed : List NodeRecord
squeezed = ln 0 Quote 0 0 0 ∷ ln 1 Table 0 0 0 ∷ ln 2 Body 0 0 0 ∷ ln 3 Row 0 0 0 ∷ ln 4 Cell 1 1 0 ∷ ln 5 Text 0 0 3 ∷ []

pub record Walks : Type 0 where
  -- the quote takes off its prefix
  pub quote_at_5 : walk 3 0 5 quoted ≡ Some 5 ∷ Some 3 ∷ []
  pub quote_passes : verdict_of (narrow_checks 3 0 5 0 quoted) ≡ Ok tt
  -- at 4 it is too narrow, on its own line; with overflow it passes on what its text needs
  pub quote_at_4 : verdict_of (narrow_checks 3 0 4 0 quoted) ≡ Err (refusal TooNarrow 1)
  pub quote_over : verdict_of (narrow_checks 3 0 4 1 quoted) ≡ Ok tt
  pub quote_passes_on : walk 3 0 4 quoted ≡ Some 4 ∷ Some 3 ∷ []
  -- a list without children is never too narrow
  pub bare_at_0 : verdict_of (narrow_checks 3 0 0 0 bare) ≡ Ok tt
  -- a width of 0 is one
  pub marked_at_1 : walk 3 0 1 marked ≡ Some 1 ∷ Some 0 ∷ []
  pub marked_passes : verdict_of (narrow_checks 3 0 1 0 marked) ≡ Ok tt
  -- the list is named, not its child
  pub listed_at_4 : verdict_of (narrow_checks 3 0 4 0 listed) ≡ Err (refusal TooNarrow 2)
  -- the table is laid out at 9; bodies and rows have its width, the empty cell and what stands in it none, the inner table its cell's width
  pub table_at_11 :
      walk 3 0 11 tabled_in
      ≡ Some 11 ∷ Some 9 ∷ Some 9 ∷ Some 9 ∷ Some 3 ∷ Some 3 ∷ None ∷ None ∷ Some 2 ∷ Some 2 ∷ Some 2 ∷ Some 2 ∷ Some 2 ∷ Some 2 ∷ []
  -- a table in a missing cell has no width, nor has anything in it
  pub lost_at_30 : walk 3 0 30 lost ≡ Some 30 ∷ Some 30 ∷ Some 30 ∷ Some 3 ∷ Some 3 ∷ None ∷ None ∷ None ∷ None ∷ None ∷ []
  -- a table in a quote that passes on 0 has the width 0: it goes down, and its cell is missing
  pub squeezed_at_2 : walk 0 0 2 squeezed ≡ Some 2 ∷ Some 0 ∷ Some 0 ∷ Some 0 ∷ None ∷ None ∷ []
  pub squeezed_passes : verdict_of (narrow_checks 0 0 2 0 squeezed) ≡ Ok tt
  pub squeezed_down : way_in (columns_of (table_rows squeezed 1)) (boxes_at 0 squeezed 1) 0 0 ≡ Down

walks : Walks
unfolding takes_off passed_on too_narrow printed_in cell_width from_nearest line_width walk_to narrow_from verdict_of first_answer table_rows measured estimate_of leaf_of holder_of gather prefix_of box_of tabled sum up_to sum_at largest_at flat grid_of columns_of entries_of longest originals entries_from ends_of ends_from count_below mem row_from fillers later nexts hang_of frame row_sum widest resolve_row fill_body cut_row cut_body resolve_body resolved ol_prefix writing last_number digits digits_in way_of final_widths share shares_of cut cut_by cut_once pick place_rows place_row place_side place_down
walks =
    record {
      quote_at_5 = refl;
      quote_passes = refl;
      quote_at_4 = refl;
      quote_over = refl;
      quote_passes_on = refl;
      bare_at_0 = refl;
      marked_at_1 = refl;
      marked_passes = refl;
      listed_at_4 = refl;
      table_at_11 = refl;
      lost_at_30 = refl;
      squeezed_at_2 = refl;
      squeezed_passes = refl;
      squeezed_down = refl;
    }
