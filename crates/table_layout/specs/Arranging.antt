-- One table of a measured sheet laid out.
use Rattle.std.specs.Prelude.{◌≡◌, List, ℕ, ◌+◌, ◌≤◌, ◌<◌, length, get_or, take, drop}
use Rattle.text.specs.declared.Estimate.{Estimate}
use Rattle.records.specs.declared.NodeRecord.{NodeRecord}
use Rattle.columns.specs.Boxes.{Box}
use Rattle.resolved_rows.specs.Listed.{table_rows}
use Rattle.grid.specs.Grid.{grid_of}
use Rattle.grid.specs.Facts.{Sound, CellOf}
use Rattle.grid.specs.Judging.{Lined}
use Rattle.estimates.specs.Estimates.{none, estimates, measured, box_rows}

-- there are figures of its cells, of which no least passes its size
pub record TableMeasured (ks : List NodeRecord) (at : ℕ) (figures : List Estimate) : Type 0 where
  pub enough : length ks ≤ length figures
  pub fits : (k : ℕ) → CellOf ks at k → (get_or figures k none).least ≤ (get_or figures k none).size

-- a table of an accepted sheet, with the figures of its cells
pub record TableKnown (ks : List NodeRecord) (figures : List Estimate) (at : ℕ) : Type 0 where
  pub within : at < length ks
  pub lined : Lined ks
  pub sound : Sound (table_rows ks at)
  pub measured : TableMeasured ks at figures

-- the estimates of all lines stand in the front of the figures, at some wrap, and no least passes its size
pub record AllMeasured (ks : List NodeRecord) (figures : List Estimate) : Type 0 where
  pub wrap : ℕ
  pub figures_are : take (length ks) figures ≡ estimates wrap ks
  pub enough : length ks ≤ length figures
  pub fits : (k : ℕ) → k < length ks → (get_or (estimates wrap ks) k none).least ≤ (get_or (estimates wrap ks) k none).size

-- the rows of boxes of the table at a place: the entries of its grid with the estimates of the lines after it
abbrev pub boxes_at : ℕ → List NodeRecord → ℕ → List (List Box)
boxes_at wrap ks at = box_rows (at + 1) (drop (at + 1) (measured wrap 1 ks)) (grid_of (table_rows ks at))
