-- What measuring an opened sheet takes and promises.
use Rattle.common.specs.declared.Refusal.{Refusal}
use Rattle.std.specs.Prelude.{◌≡◌, ◌⊎◌, List, ℕ, ◌-◌, ◌≤◌, ◌<◌, length, get_or, take, Ok, Err, Result, Option, Some, IsSome, IfSome, MatchResult}
use Rattle.common.specs.Limits.{max_position, max_entries, max_lines}
use Rattle.text.specs.declared.Estimate.{Estimate}
use Rattle.records.specs.declared.NodeRecord.{NodeRecord}
use Rattle.records.specs.declared.Entry.{Entry}
use Rattle.records.specs.declared.RowEnd.{RowEnd}
use Rattle.grid.specs.Facts.{CellOf}
use Rattle.grid.specs.Judging.{Lined}
use Rattle.grid_bounds.specs.inner.Sheets.{Nests, AllSound, Suffice}
use Rattle.estimates.specs.Estimates.{none, estimates}
use Rattle.estimates.specs.inner.Sheet as estimates
use Rattle.estimates.specs.Meets.{Bounded}
use Rattle.sheet_load.specs.Opening.{nodes_of}
use Rattle.sheet_load.specs.inner.Opened.{OpenSheetPost}

-- ---- the lines of an opened sheet

-- lines whose tables are not refused, and a place for the estimate of each
pub record Measurable (ks : List NodeRecord) (fs : List Estimate) : Type 0 where
  pub sheet : estimates.Sheet ks
  pub lined : Lined ks
  pub nests : Nests ks
  pub sound : AllSound ks
  pub results : length ks ≤ length fs

-- so many records of entries and of rows do for any table of the lines: as many as all cells ask for, or as many entries as a table may have, and as many
-- rows, or a row for each line
abbrev pub Enough : ℕ → ℕ → List NodeRecord → Type 0
Enough entries rows ks = Suffice entries rows ks ⊎ ((max_entries ≤ entries) × ((max_lines ≤ rows) ⊎ (length ks ≤ rows)))

-- something is found, or the sheet is refused
abbrev pub Decided : {A : Type 0} → Result (Option A) Refusal → Type 0
Decided {A} r = (t : Option A) → r ≡ Ok t → IsSome t

-- what is tried in arrays of one size: if they suffice, it is found, or the sheet refused
abbrev pub Tried : {A : Type 0} → (Result A Refusal → Type 0) → Result (Option A) Refusal → Type 0
Tried Found t = MatchResult t (λ o. IfSome o (λ r. Found (Ok r))) (λ why. Found (Err why))

-- scratch for any table
pub record ScratchForAny (leasts : List ℕ) (entries : List Entry) (rows : List RowEnd) : Type 0 where
  pub leasts_capacity : max_position ≤ length leasts
  pub entries_capacity : max_entries ≤ length entries
  pub rows_capacity : max_lines ≤ length rows

-- ---- a sheet

-- all lines measured: no least passes its size, no size 33,554,432
pub record LinesMeasured (wrap : ℕ) (ks : List NodeRecord) (fs : List Estimate) : Type 0 where
  pub figures : take (length ks) fs ≡ estimates wrap ks
  pub sound : (k : ℕ) → k < length ks → Bounded (get_or (estimates wrap ks) k none)

pub record MeasureSheetPost (asked : Option ℕ) (s : List ℕ) (wrap : ℕ) (r : Result ℕ Refusal) (lines : List NodeRecord) (figures : List Estimate) : Type 0 where
  pub opened : OpenSheetPost asked s r lines
  pub measured : (n : ℕ) → r ≡ Ok n → LinesMeasured wrap (nodes_of s) figures

-- the cells of the table at a place measured
pub record CellsKnown (wrap : ℕ) (ks : List NodeRecord) (at : ℕ) (fs : List Estimate) : Type 0 where
  pub cells : (k : ℕ) → CellOf ks at k → get_or fs k none ≡ get_or (estimates wrap ks) k none
  pub sound : (k : ℕ) → CellOf ks at k → Bounded (get_or (estimates wrap ks) k none)

-- a sheet opened for the table in a line, and what lies below that table measured
pub record MeasureTablePost (s : List ℕ) (line wrap : ℕ) (r : Result ℕ Refusal) (lines : List NodeRecord) (figures : List Estimate) : Type 0 where
  pub opened : OpenSheetPost (Some line) s r lines
  pub measured : (n : ℕ) → r ≡ Ok n → CellsKnown wrap (nodes_of s) (line - 1) figures
