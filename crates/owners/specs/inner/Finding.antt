-- What finding the owner of a filler takes, and what hangs of an entry.
use Rattle.std.specs.Prelude.{◌≡◌, cond, List, [], ◌∷◌, ◌++◌, map, ℕ, ◌+◌, ◌-◌, ◌/◌, ◌≤◌, ◌<◌, ltb, length, get_or, take}
use Rattle.common.specs.Limits.{max_lines, max_entries}
use Rattle.records.specs.inner.NodeRecord.{no_entry}
use Rattle.records.specs.declared.NodeRecord.{NodeRecord}
use Rattle.records.specs.declared.Entry.{Entry}
use Rattle.records.specs.declared.RowEnd.{RowEnd}
use Rattle.resolved_rows.specs.Listed.{table_rows}
use Rattle.grid.specs.Grid.{grid_of, entries_of}
use Rattle.grid.specs.Facts.{Sound}
use Rattle.grid.specs.Judging.{Lined, shown}
use Rattle.grid_build.specs.inner.Cut.{GridRecords}
use Rattle.owners.specs.declared.Hanging.{Hanging}

-- a table of an accepted sheet, and the records of its grid
pub record FillerOwnerPre (ks : List NodeRecord) (at : ℕ) (entries : List Entry) (rows : List RowEnd) (columns : ℕ) : Type 0 where
  pub within : at < length ks
  pub lined : Lined ks
  pub sound : Sound (table_rows ks at)
  pub made : GridRecords (table_rows ks at) entries rows columns

-- the records of a table's entries
abbrev pub grid_records : List NodeRecord → ℕ → List Entry
grid_records ks at = map shown (entries_of (grid_of (table_rows ks at)))

-- a table of an accepted sheet, and the first of the records of its entries, up to one of a filler
pub record FindOwnerPre (ks : List NodeRecord) (at : ℕ) (entries : List Entry) : Type 0 where
  pub within : at < length ks
  pub lined : Lined ks
  pub sound : Sound (table_rows ks at)
  pub front : entries ≡ take (length entries) (grid_records ks at)
  pub more : length entries < length (grid_records ks at)
  pub filler : (get_or (grid_records ks at) (length entries) no_entry).cell ≡ 0

-- and slices with room for each line's cell or row, and for what hangs of each entry
pub record OwnerAfterPre (ks : List NodeRecord) (at : ℕ) (entries : List Entry) (cells : List ℕ) (rows : List RowEnd) (hung : List Hanging) : Type 0 where
  pub found : FindOwnerPre ks at entries
  pub cell_capacity : max_lines ≤ length cells / 3
  pub row_capacity : max_lines ≤ length rows
  pub hung_capacity : max_entries ≤ length hung

-- what hangs into the next row of an entry of this owner that takes so many rows
unfoldable pub onward : ℕ → ℕ → List Hanging
onward owner left = cond (ltb 1 left) (record { owner = owner; left = left - 1 } ∷ []) []

-- it is put behind the first k
pub record PutPost (k owner left r : ℕ) (before after : List Hanging) : Type 0 where
  pub count : r ≡ k + length (onward owner left)
  pub front : take r after ≡ take k before ++ onward owner left
