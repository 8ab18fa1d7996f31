-- Whole sheets and their estimates, about the definitions.
use Rattle.std.specs.Prelude.{◌≡◌, refl, [], ◌∷◌, ℕ}
use Rattle.common.specs.Lists.{sum, mem}
use Rattle.text.specs.Decimal.{writing, digits, digits_in}
use Rattle.text.specs.Prefix.{last_number, ol_prefix}
use Rattle.records.specs.declared.NodeRecord.{NodeRecord}
use Rattle.kinds.specs.declared.Kind.{Kind}
use Rattle.kinds.specs.declared.Kind.TheVariants.{Text, Link, Head, Div, Ul, Break, Table, Body, Row, Cell, Item}
use Rattle.columns.specs.Boxes.{flat}
use Rattle.columns.specs.Columns.{up_to, sum_at, largest_at}
use Rattle.column_edges.specs.Edges.{count_below, ends_from}
use Rattle.resolved_rows.specs.Cells.{frame, row_sum, widest, resolve_row, fill_body, cut_row, cut_body, resolve_body, resolved}
use Rattle.grid_row.specs.Row.{fillers, later, row_from, hang_of, nexts}
use Rattle.grid_positions.specs.Positions.{originals}
use Rattle.grid.specs.Grid.{ends_of, entries_from, longest, grid_of, columns_of}
use Rattle.estimates.specs.Estimates.{estimate, estimates, measured, estimate_of, leaf_of, holder_of, gather, prefix_of, box_of, tabled}

abbrev ln : (depth : ℕ) (kind : Kind) (number cols rows own : ℕ) → NodeRecord
ln depth kind number cols rows own = record { depth = depth; kind = kind; cols = cols; rows = rows; number = number; own = own }

-- lines with their estimates
pub record Traced : Type 0 where
  -- two bodies, a span that ends with the first, a colspan of 0, a list and a link
  pub traced :
      estimates 3 (ln 0 Table 1000000000 0 0 0 ∷ ln 1 Body 1000000000 0 0 0 ∷ ln 2 Row 1000000000 0 0 0 ∷ ln 3 Cell 1000000000 1 3 0 ∷ ln 4 Text 1000000000 0 0 4 ∷ ln 3 Cell 1000000000 0 1 0 ∷ ln 4 Text 1000000000 0 0 16 ∷ ln 2 Row 1000000000 0 0 0 ∷ ln 3 Cell 1000000000 1 1 0 ∷ ln 4 Text 1000000000 0 0 10 ∷ ln 3 Cell 1000000000 2 1 0 ∷ ln 4 Ul 1000000000 0 0 0 ∷ ln 5 Item 1000000000 0 0 0 ∷ ln 6 Text 1000000000 0 0 4 ∷ ln 1 Body 1000000000 0 0 0 ∷ ln 2 Row 1000000000 0 0 0 ∷ ln 3 Cell 1000000000 2 2 0 ∷ ln 4 Link 1000000000 0 0 0 ∷ ln 5 Text 1000000000 0 0 3 ∷ [])
      ≡ estimate 47 13 0 ∷ estimate 0 0 0 ∷ estimate 0 0 0 ∷ estimate 4 3 0 ∷ estimate 4 3 0 ∷ estimate 16 3 0 ∷ estimate 16 3 0 ∷ estimate 0 0 0 ∷ estimate 10 3 0 ∷ estimate 10 3 0 ∷ estimate 6 5 0 ∷ estimate 6 5 2 ∷ estimate 4 3 0 ∷ estimate 4 3 0 ∷ estimate 0 0 0 ∷ estimate 0 0 0 ∷ estimate 8 5 0 ∷ estimate 8 5 0 ∷ estimate 3 3 0 ∷ []
  -- a column sums the sizes of its rows: `abcd` over `abcdef`
  pub sums_not_largest :
      estimates 3 (ln 0 Table 1000000000 0 0 0 ∷ ln 1 Body 1000000000 0 0 0 ∷ ln 2 Row 1000000000 0 0 0 ∷ ln 3 Cell 1000000000 1 1 0 ∷ ln 4 Text 1000000000 0 0 4 ∷ ln 2 Row 1000000000 0 0 0 ∷ ln 3 Cell 1000000000 1 1 0 ∷ ln 4 Text 1000000000 0 0 6 ∷ [])
      ≡ estimate 10 3 0 ∷ estimate 0 0 0 ∷ estimate 0 0 0 ∷ estimate 4 3 0 ∷ estimate 4 3 0 ∷ estimate 0 0 0 ∷ estimate 6 3 0 ∷ estimate 6 3 0 ∷ []
  -- link and break keep their least widths at wrap 0
  pub least_past_wrap :
      estimates 0 (ln 0 Div 1000000000 0 0 0 ∷ ln 1 Link 1000000000 0 0 0 ∷ ln 1 Break 1000000000 0 0 0 ∷ [])
      ≡ estimate 6 5 0 ∷ estimate 5 5 0 ∷ estimate 1 1 0 ∷ []
  -- a heading of level 6 over `abcdef`
  pub head_six :
      estimates 3 (ln 0 Head 1000000006 0 0 0 ∷ ln 1 Text 1000000000 0 0 6 ∷ [])
      ≡ estimate 13 10 7 ∷ estimate 6 3 0 ∷ []
  -- a prefix is the line's own: div over ul over `abc`
  pub prefix_is_own :
      estimates 3 (ln 0 Div 1000000000 0 0 0 ∷ ln 1 Ul 1000000000 0 0 0 ∷ ln 2 Text 1000000000 0 0 3 ∷ [])
      ≡ estimate 5 5 0 ∷ estimate 5 5 2 ∷ estimate 3 3 0 ∷ []
  -- three empty cells are two gaps
  pub empty_cells :
      estimates 3 (ln 0 Table 1000000000 0 0 0 ∷ ln 1 Body 1000000000 0 0 0 ∷ ln 2 Row 1000000000 0 0 0 ∷ ln 3 Cell 1000000000 1 1 0 ∷ ln 3 Cell 1000000000 1 1 0 ∷ ln 3 Cell 1000000000 1 1 0 ∷ [])
      ≡ estimate 2 2 0 ∷ estimate 0 0 0 ∷ estimate 0 0 0 ∷ estimate 0 0 0 ∷ estimate 0 0 0 ∷ estimate 0 0 0 ∷ []
  -- one character over two columns
  pub missing_yet_measured :
      estimates 3 (ln 0 Table 1000000000 0 0 0 ∷ ln 1 Body 1000000000 0 0 0 ∷ ln 2 Row 1000000000 0 0 0 ∷ ln 3 Cell 1000000000 2 1 0 ∷ ln 4 Text 1000000000 0 0 1 ∷ ln 2 Row 1000000000 0 0 0 ∷ ln 3 Cell 1000000000 1 1 0 ∷ ln 3 Cell 1000000000 1 1 0 ∷ [])
      ≡ estimate 1 1 0 ∷ estimate 0 0 0 ∷ estimate 0 0 0 ∷ estimate 1 1 0 ∷ estimate 1 1 0 ∷ estimate 0 0 0 ∷ estimate 0 0 0 ∷ estimate 0 0 0 ∷ []

traced : Traced
unfolding measured estimate_of leaf_of holder_of gather prefix_of box_of tabled sum up_to sum_at largest_at flat grid_of columns_of longest originals entries_from ends_of ends_from count_below mem row_from fillers later nexts hang_of frame row_sum widest resolve_row resolve_body fill_body cut_body cut_row resolved ol_prefix writing last_number digits digits_in
traced =
    record {
      traced = refl;
      sums_not_largest = refl;
      least_past_wrap = refl;
      head_six = refl;
      prefix_is_own = refl;
      empty_cells = refl;
      missing_yet_measured = refl;
    }
