-- The report on one table, by the lines of a measured sheet and by the sheet's bytes, in the front of the lent buffers.
use Rattle.common.specs.declared.Refusal.{Refusal}
use Rattle.std.specs.Prelude.{◌≡◌, List, ℕ, ◌≤◌, length, take, Result}
use Rattle.common.specs.Limits.{max_widths}
use Rattle.common.specs.Refusals.{Check, answer_by, if_passes}
use Rattle.text.specs.declared.Estimate.{Estimate}
use Rattle.records.specs.declared.NodeRecord.{NodeRecord}
use Rattle.resolved_rows.specs.Listed.{table_rows}
use Rattle.grid.specs.Grid.{columns_of}
use Rattle.table_layout.specs.Arranging.{boxes_at}
use Rattle.table_layout.specs.inner.Arranging.{CellsAre}
use Rattle.sheet_figures.specs.inner.Opened.{lines_in}
use Rattle.window.specs.inner.Report.{WriteReportPost}
use Rattle.call_window.specs.Window.{ways_at, table_widths_at, missing_counts_at}

-- no more widths than a call takes, and a place in each lent buffer for each of them
pub record ReportCapacity (widths way wide missing : List ℕ) : Type 0 where
  pub few : length widths ≤ max_widths
  pub way_capacity : length widths ≤ length way
  pub wide_capacity : length widths ≤ length wide
  pub missing_capacity : length widths ≤ length missing

-- of the table at a place, at the wrap of the estimates: a line for each width in the first places
pub record WindowMade (ks : List NodeRecord) (at : ℕ) (figures : List Estimate) (raw : ℕ) (widths way wide missing : List ℕ) : Type 0 where
  pub reported : (wrap : ℕ) → CellsAre wrap ks at figures
      → WriteReportPost (columns_of (table_rows ks at)) (boxes_at wrap ks at) raw widths (take (length widths) way) (take (length widths) wide) (take (length widths) missing)

-- found in the sheet, or the first refusal; the lines of the report stand in the first places
pub record WindowFound (cs : List Check) (s : List ℕ) (line wrap raw : ℕ) (widths : List ℕ) (r : Result ℕ Refusal) (way wide missing : List ℕ) : Type 0 where
  pub answer : r ≡ answer_by (length widths) cs
  pub few : lines_in r ≤ length widths
  pub ways : take (lines_in r) way ≡ if_passes cs (ways_at s line wrap raw widths)
  pub wides : take (lines_in r) wide ≡ if_passes cs (table_widths_at s line wrap raw widths)
  pub missings : take (lines_in r) missing ≡ if_passes cs (missing_counts_at s line wrap raw widths)
