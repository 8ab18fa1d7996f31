-- Where a row stands among the entries of its table, and what stands in two slices of all placed entries.
use Rattle.common.specs.declared.Refusal.{Refusal}
use Rattle.std.specs.Prelude.{◌≡◌, true, List, [], ◌∷◌, ℕ, ◌+◌, ◌≤◌, length, get_or, Err, Ok, Result}
use Rattle.std.proofs.Math.Seq.{slice}
use Rattle.common.specs.Limits.{max_entries}
use Rattle.common.specs.Refusals.{Check, first_answer, passes}
use Rattle.text.specs.declared.Estimate.{Estimate}
use Rattle.records.specs.declared.NodeRecord.{NodeRecord}
use Rattle.records.specs.declared.RowEnd.{RowEnd}
use Rattle.columns.specs.Boxes.{Box}
use Rattle.resolved_rows.specs.Listed.{table_rows}
use Rattle.grid.specs.Grid.{GridRow, grid_of, columns_of}
use Rattle.grid_build.specs.inner.Records.{ended_rows}
use Rattle.answers.specs.declared.Way.{Way}
use Rattle.placement.specs.Place.{place_row}
use Rattle.table_layout.specs.Laying.{way_in, widths_in}
use Rattle.table_layout.specs.Arranging as table
use Rattle.table_layout.specs.inner.Arranging.{CellsAre}
use Rattle.hit_test.specs.Point.{placed}
use Rattle.hit_test.specs.inner.Rows.{InSlices}
use Rattle.sheet_figures.specs.Figures.{rows_at, boxes_at, way_at, widths_at}
use Rattle.row_lookup.specs.Rows.{start_in, row_check}
use Rattle.row_lookup.specs.declared.Span.{Span}

-- the records are those of a grid's rows
abbrev pub HasRows : List RowEnd → List GridRow → Type 0
HasRows rows g = rows ≡ ended_rows 0 g

abbrev pub span_with : (first end next : ℕ) → Span
span_with first end next = record { first = first; end = end; next = next }

-- the numbers of the entries at which the row starts, at which it ends, and at which the next one ends; or 10
unfoldable pub range_in : Way → List GridRow → ℕ → Result Span Refusal
range_in way g row = first_answer Err (Ok (span_with (start_in g row) (start_in g (row + 1)) (start_in g (row + 2)))) (row_check way g row ∷ [])

-- the two slices have the places of a table's entries
pub record PlacesCapacity (x wide : List ℕ) : Type 0 where
  pub x_capacity : max_entries ≤ length x
  pub wide_capacity : max_entries ≤ length wide

-- all rows of a grid are placed in the slices
pub record RowsPlaced (way : Way) (ws : List ℕ) (width : ℕ) (g : List GridRow) (rows : List (List Box)) (x wide : List ℕ) : Type 0 where
  pub places : (k : ℕ) → slice (start_in g k) (start_in g (k + 1)) (placed x wide) ≡ place_row way ws width (get_or rows k [])
  pub slices : (k : ℕ) → InSlices (start_in g k) (start_in g (k + 1)) x wide
  pub few : (k : ℕ) → start_in g k ≤ max_entries

-- of a table, at the wrap of the estimates
pub record RangeAt (columns : ℕ) (g : List GridRow) (rows : List (List Box)) (raw width row : ℕ) (r : Result Span Refusal) (x wide : List ℕ) : Type 0 where
  pub answer : r ≡ range_in (way_in columns rows raw width) g row
  pub told : RowsPlaced (way_in columns rows raw width) (widths_in columns rows raw width) width g rows x wide

pub record FindRowPost (ks : List NodeRecord) (at : ℕ) (figures : List Estimate) (raw width row : ℕ) (r : Result Span Refusal) (x wide : List ℕ) : Type 0 where
  pub made : (wrap : ℕ) → CellsAre wrap ks at figures
      → RangeAt (columns_of (table_rows ks at)) (grid_of (table_rows ks at)) (table.boxes_at wrap ks at) raw width row r x wide

-- found in the sheet, or the first refusal
pub record RangeFound (cs : List Check) (s : List ℕ) (line wrap raw width row : ℕ) (r : Result Span Refusal) (x wide : List ℕ) : Type 0 where
  pub answer : r ≡ first_answer Err (range_in (way_at s line wrap raw width) (rows_at s line) row) cs
  pub told : passes cs ≡ true → RowsPlaced (way_at s line wrap raw width) (widths_at s line wrap raw width) width (rows_at s line) (boxes_at s line wrap) x wide
