-- One table of a measured sheet arranged in the front of lent slices.
use Rattle.std.specs.Prelude.{◌≡◌, List, ℕ, length, get_or, take}
use Rattle.text.specs.declared.Estimate.{Estimate}
use Rattle.records.specs.declared.NodeRecord.{NodeRecord}
use Rattle.records.specs.declared.Entry.{Entry}
use Rattle.records.specs.declared.RowEnd.{RowEnd}
use Rattle.resolved_rows.specs.Listed.{table_rows}
use Rattle.grid.specs.Grid.{grid_of, columns_of, entries_of}
use Rattle.grid.specs.Facts.{CellOf}
use Rattle.estimates.specs.Estimates.{none, estimates}
use Rattle.grid_build.specs.inner.Records.{TableMade}
use Rattle.grid_build.specs.declared.Counts.{Counts}
use Rattle.widths.specs.declared.Laid.{Laid}
use Rattle.table_layout.specs.inner.Laying.{LaidTable}
use Rattle.table_layout.specs.Arranging.{boxes_at}

-- the estimates of the cells of the table at a place stand among the figures, by line
pub record CellsAre (wrap : ℕ) (ks : List NodeRecord) (at : ℕ) (figures : List Estimate) : Type 0 where
  pub cells : (k : ℕ) → CellOf ks at k → get_or figures k none ≡ get_or (estimates wrap ks) k none

-- the grid of the table made, and the table laid out, at the wrap of the estimates
pub record ArrangePost (ks : List NodeRecord) (at : ℕ) (figures : List Estimate) (raw width : ℕ) (es : List Entry) (rs : List RowEnd) (column x wide : List ℕ)
    (counts : Counts) (r : Laid) : Type 0 where
  pub made : TableMade (table_rows ks at) counts es rs
  pub laid : (wrap : ℕ) → CellsAre wrap ks at figures
      → LaidTable (columns_of (table_rows ks at)) (boxes_at wrap ks at) raw width
      (take (columns_of (table_rows ks at)) column) (take (length (entries_of (grid_of (table_rows ks at)))) x) (take (length (entries_of (grid_of (table_rows ks at)))) wide) r
