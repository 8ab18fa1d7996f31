-- The missing entries and the causes of one table, by the lines of a measured sheet and by the sheet's bytes.
use Rattle.answers.specs.Answers.{causes_with}
use Rattle.answers.specs.declared.Causes.{Causes}
use Rattle.common.specs.declared.Refusal.{Refusal}
use Rattle.std.specs.Prelude.{◌≡◌, List, ℕ, ◌≤◌, length, take, Err, Ok, Result}
use Rattle.common.specs.Limits.{max_lines, max_entries}
use Rattle.common.specs.Refusals.{Check, first_answer, if_passes}
use Rattle.text.specs.declared.Estimate.{Estimate}
use Rattle.records.specs.declared.NodeRecord.{NodeRecord}
use Rattle.columns.specs.Boxes.{Box, flat}
use Rattle.columns.specs.Columns.{size_of, least_of, largest}
use Rattle.resolved_rows.specs.Listed.{table_rows}
use Rattle.grid.specs.Grid.{columns_of}
use Rattle.table_layout.specs.Laying.{widths_in, places_in}
use Rattle.table_layout.specs.Arranging.{boxes_at}
use Rattle.table_layout.specs.inner.Arranging.{CellsAre}
use Rattle.sheet_figures.specs.Figures.{columns_at}
use Rattle.causes.specs.Causes.{causes, missing_from}
use Rattle.causes.specs.Sheets.{causes_at, missing_at}

-- the lent buffers have the places of a table's entries, and of its columns
pub record ExplainCapacity (entry cause : List ℕ) : Type 0 where
  pub entry_capacity : max_entries ≤ length entry
  pub cause_capacity : max_lines ≤ length cause

-- how many entries are missing, and how many columns there are
unfoldable pub missed_total : Result Causes Refusal → ℕ
missed_total (Ok t) = t.count
missed_total (Err why) = 0

unfoldable pub column_total : Result Causes Refusal → ℕ
column_total (Ok t) = t.columns
column_total (Err why) = 0

-- of a table with these rows of boxes in so many columns: the answer, and what stands in the first places
pub record TableExplained (columns : ℕ) (rows : List (List Box)) (raw width : ℕ) (r : Causes) (entry cause : List ℕ) : Type 0 where
  pub answer : r ≡ causes_with (length (missing_from 0 (places_in columns rows raw width))) columns
  pub entries : take r.count entry ≡ missing_from 0 (places_in columns rows raw width)
  pub causes : take r.columns cause
      ≡ causes (largest size_of (flat rows) columns) (largest least_of (flat rows) columns) (widths_in columns rows raw width) width

-- of the table at a place, at the wrap of the estimates
pub record MissingMade (ks : List NodeRecord) (at : ℕ) (figures : List Estimate) (raw width : ℕ) (r : Causes) (entry cause : List ℕ) : Type 0 where
  pub few_entries : r.count ≤ max_entries
  pub few_columns : r.columns ≤ max_lines
  pub told : (wrap : ℕ) → CellsAre wrap ks at figures → TableExplained (columns_of (table_rows ks at)) (boxes_at wrap ks at) raw width r entry cause

-- found in the sheet, or the first refusal; the figures stand in the first places
pub record MissingFound (cs : List Check) (s : List ℕ) (line wrap raw width : ℕ) (r : Result Causes Refusal) (entry cause : List ℕ) : Type 0 where
  pub answer : r ≡ first_answer Err (Ok (causes_with (length (missing_at s line wrap raw width)) (columns_at s line))) cs
  pub few_entries : missed_total r ≤ max_entries
  pub few_columns : column_total r ≤ max_lines
  pub entries : take (missed_total r) entry ≡ if_passes cs (missing_at s line wrap raw width)
  pub causes : take (column_total r) cause ≡ if_passes cs (causes_at s line wrap raw width)
