-- What `join` asks and promises, of grids of which the records are given.
use Rattle.std.specs.Prelude.{◌≡◌, List, map, ℕ, ◌+◌, ◌≤◌, max, length, Result, Ok, Err}
use Rattle.common.specs.Lists.{All}
use Rattle.common.specs.Limits.{max_position, max_entries, max_lines}
use Rattle.common.specs.Refusals.{refusal, answer_by}
use Rattle.common.specs.declared.Reason.{Reason}
use Rattle.common.specs.declared.Refusal.{Refusal}
use Rattle.records.specs.declared.Entry as records
use Rattle.records.specs.declared.RowEnd.{RowEnd}
use Rattle.grid.specs.Grid.{GridRow, entries_of}
use Rattle.grid.specs.Judging.{shown}
use Rattle.grid_build.specs.declared.Counts.{Counts}
use Rattle.grid_build.specs.inner.Records.{ended_rows}
use Rattle.grid_join.specs.Joined.{joined, joined_checks}
use Rattle.grid_join.specs.Facts.{RowTiles}
use Rattle.grid_join.specs.inner.Parts.{Stands}

-- these are the records of the grid
pub record IsRecords (g : List GridRow) (es : List records.Entry) (rs : List RowEnd) : Type 0 where
  pub entries_are : es ≡ map shown (entries_of g)
  pub rows_are : rs ≡ ended_rows 0 g

-- these are the records of a grid of so many columns, which its rows tile
pub record Given (columns : ℕ) (g : List GridRow) (es : List records.Entry) (rs : List RowEnd) : Type 0 where
  pub records_are : IsRecords g es rs
  pub tiles : All (RowTiles columns) g
  pub few_columns : columns ≤ max_position
  pub few_entries : length es ≤ max_entries
  pub few_rows : length rs ≤ max_lines

-- the records of two grids of c and of d columns, and places for the joined one unless it has too many entries
pub record JoinPre (c d : ℕ) (left : List records.Entry) (left_rows : List RowEnd) (right : List records.Entry) (right_rows : List RowEnd)
    (es : List records.Entry) (ks : List RowEnd) : Type 0 where
  pub ls : List GridRow
  pub rs : List GridRow
  pub left_given : Given c ls left left_rows
  pub right_given : Given d rs right right_rows
  pub entry_capacity : length (entries_of (joined c d ls rs)) ≤ max_entries → length (entries_of (joined c d ls rs)) ≤ length es
  pub row_capacity : max (length ls) (length rs) ≤ length ks

-- how many rows, entries and columns the joined grid has
abbrev pub joined_counts : (c d : ℕ) → List GridRow → List GridRow → Counts
joined_counts c d ls rs = record { rows = max (length ls) (length rs); entries = length (entries_of (joined c d ls rs)); columns = c + d }

-- an answer whose refusal is put on a line
abbrev pub on_line : ℕ → Result Counts Reason → Result Counts Refusal
on_line line (Ok counts) = Ok counts
on_line line (Err why) = Err (refusal why line)

-- the answer is the counts, or the reason of the first refusal that applies; where there is a joined grid, it stands in the first records
pub record Joins (c d : ℕ) (ls rs : List GridRow) (answer : Result Counts Reason) (es : List records.Entry) (ks : List RowEnd) : Type 0 where
  pub answer_is : (line : ℕ) → on_line line answer ≡ answer_by (joined_counts c d ls rs) (joined_checks line c d ls rs)
  pub stands : (counts : Counts) → answer ≡ Ok counts → Stands (joined c d ls rs) es ks

-- so it is of any two grids whose records these are: an owner of a filler is in no record
abbrev pub JoinPost : (c d : ℕ) → List records.Entry → List RowEnd → List records.Entry → List RowEnd → Result Counts Reason → List records.Entry → List RowEnd → Type 0
JoinPost c d left left_rows right right_rows answer es ks =
    (ls rs : List GridRow) → IsRecords ls left left_rows → IsRecords rs right right_rows → Joins c d ls rs answer es ks
