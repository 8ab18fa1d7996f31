-- The layout of one table of an accepted sheet.
use Rattle.answers.specs.Answers.{layout_with}
use Rattle.answers.specs.declared.Layout.{Layout}
use Rattle.std.specs.Prelude.{◌≡◌, List, ℕ, ◌≤◌, length, take}
use Rattle.common.specs.Limits.{max_entries, max_position}
use Rattle.text.specs.declared.Estimate.{Estimate}
use Rattle.records.specs.declared.NodeRecord.{NodeRecord}
use Rattle.resolved_rows.specs.Listed.{table_rows}
use Rattle.grid.specs.Grid.{grid_of, columns_of, entries_of}
use Rattle.widths.specs.declared.Laid.{Laid}
use Rattle.table_layout.specs.inner.Laying.{LaidTable}
use Rattle.table_layout.specs.Arranging.{boxes_at}
use Rattle.table_layout.specs.inner.Arranging.{CellsAre}
use Rattle.table_layout.specs.declared.Arrangement.{Arrangement}

-- an arrangement as the call answers it
abbrev pub answer_of : Arrangement → Layout
answer_of a = layout_with a.laid.way a.counts.entries a.counts.columns a.laid.width

-- the way and the width of a layout
abbrev pub laid_of : Layout → Laid
laid_of r = record { way = r.way; width = r.width }

-- the layout of the table at a place, in the front of the buffers, at the wrap of the estimates
pub record LayoutOfPost (ks : List NodeRecord) (at : ℕ) (figures : List Estimate) (raw width : ℕ) (r : Layout) (column x wide : List ℕ) : Type 0 where
  pub entries_are : r.entries ≡ length (entries_of (grid_of (table_rows ks at)))
  pub columns_are : r.columns ≡ columns_of (table_rows ks at)
  pub few_columns : columns_of (table_rows ks at) ≤ max_position
  pub few_entries : length (entries_of (grid_of (table_rows ks at))) ≤ max_entries
  pub laid : (wrap : ℕ) → CellsAre wrap ks at figures
      → LaidTable (columns_of (table_rows ks at)) (boxes_at wrap ks at) raw width
      (take (columns_of (table_rows ks at)) column)
      (take (length (entries_of (grid_of (table_rows ks at)))) x)
      (take (length (entries_of (grid_of (table_rows ks at)))) wide) (laid_of r)
