-- The report on a table at each of a list of widths, as it stands in lent slices.
use Rattle.std.specs.Prelude.{◌≡◌, List, map, ℕ, ◌≤◌, length}
use Rattle.common.specs.Limits.{max_position, max_entries}
use Rattle.text.specs.declared.Estimate.{Estimate}
use Rattle.records.specs.declared.Entry.{Entry}
use Rattle.records.specs.declared.RowEnd.{RowEnd}
use Rattle.columns.specs.Boxes.{Box, flat}
use Rattle.columns.specs.inner.Boxes.{TilesAll}
use Rattle.widths.specs.Widths.{table_width}
use Rattle.answers.specs.Numbers.{way_number}
use Rattle.column_sizes.specs.inner.Sizing.{entry_box}
use Rattle.column_sizes.specs.inner.Capacity.{Entered}
use Rattle.table_layout.specs.Laying.{way_in, widths_in, places_in}
use Rattle.table_layout.specs.inner.Laying.{box_rows_by}
use Rattle.causes.specs.Causes.{missing_from}

-- a table's records: entries, whole in the columns, rows that hold them all and tile the columns, the estimates of the sheet's lines; and a place of
-- each slice for each width
pub record WriteReportPre (es : List Entry) (rs : List RowEnd) (figures : List Estimate) (columns : ℕ) (widths way wide missing : List ℕ) : Type 0 where
  pub entered : Entered es figures columns
  pub tiles : TilesAll columns (box_rows_by rs es figures)
  pub holds : flat (box_rows_by rs es figures) ≡ map (entry_box figures) es
  pub entries_few : length es ≤ max_entries
  pub few : columns ≤ max_position
  pub way_length : length way ≡ length widths
  pub wide_length : length wide ≡ length widths
  pub missing_length : length missing ≡ length widths

-- of a table with these rows of boxes in so many columns, at each width: the number of its way, its width, how many entries are missing
pub record WriteReportPost (columns : ℕ) (rows : List (List Box)) (raw : ℕ) (widths way wide missing : List ℕ) : Type 0 where
  pub ways : way ≡ map (λ (w : ℕ). way_number (way_in columns rows raw w)) widths
  pub wides : wide ≡ map (λ (w : ℕ). table_width (way_in columns rows raw w) (widths_in columns rows raw w) w) widths
  pub missings : missing ≡ map (λ (w : ℕ). length (missing_from 0 (places_in columns rows raw w))) widths
