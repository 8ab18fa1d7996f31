-- What the functions that join two tables, and lay the joined grid out, take and promise.
use Rattle.std.specs.Prelude.{◌≡◌, List, ℕ, ◌+◌, ◌≤◌, length, take, Result, Ok, Err}
use Rattle.common.specs.Limits.{max_lines, max_entries, max_position, max_size}
use Rattle.common.specs.Refusals.{refusal, answer_by}
use Rattle.common.specs.declared.Reason.{Reason}
use Rattle.common.specs.declared.Refusal.{Refusal}
use Rattle.text.specs.declared.Estimate.{Estimate}
use Rattle.records.specs.declared.NodeRecord.{NodeRecord}
use Rattle.records.specs.declared.Entry.{Entry}
use Rattle.records.specs.declared.RowEnd.{RowEnd}
use Rattle.resolved_rows.specs.Listed.{table_rows}
use Rattle.grid.specs.Grid.{grid_of, columns_of, entries_of}
use Rattle.grid_build.specs.declared.Counts.{Counts}
use Rattle.grid_join.specs.inner.Joins.{joined_counts, Joins}
use Rattle.estimates.specs.Estimates.{estimates}
use Rattle.table_layout.specs.declared.Arrangement.{Arrangement}
use Rattle.table_layout.specs.inner.Laying.{LaidTable}
use Rattle.joined_tables.specs.Tables.{both_columns, joined_grid, both_checks, joined_boxes}
pub use Rattle.joined_tables.specs.Side.{Tables}

-- records for every grid that there can be
pub record RecordCapacity (es : List Entry) (rs : List RowEnd) : Type 0 where
  pub entry_capacity : max_entries ≤ length es
  pub row_capacity : max_lines ≤ length rs

-- the counts and the answer, by the grids of both
abbrev pub counts_at : List NodeRecord → ℕ → ℕ → Counts
counts_at ks l r = joined_counts (columns_of (table_rows ks l)) (columns_of (table_rows ks r)) (grid_of (table_rows ks l)) (grid_of (table_rows ks r))

abbrev pub answer_at : List NodeRecord → ℕ → ℕ → Result Counts Refusal
answer_at ks l r = answer_by (counts_at ks l r) (both_checks ks l r)

-- `make`: the joined grid in the first records, or the reason of the first refusal that applies
abbrev pub MakePost : List NodeRecord → (l r : ℕ) → Result Counts Reason → List Entry → List RowEnd → Type 0
MakePost ks l r answer es rs =
    Joins (columns_of (table_rows ks l)) (columns_of (table_rows ks r)) (grid_of (table_rows ks l)) (grid_of (table_rows ks r)) answer es rs

-- places for a layout
pub record LayOutCapacity (width : ℕ) (column x wide : List ℕ) : Type 0 where
  pub column_capacity : max_position ≤ length column
  pub x_capacity : max_entries ≤ length x
  pub wide_capacity : max_entries ≤ length wide
  pub small : width ≤ max_size

-- `lay_out`: the joined grid laid out in the first places, or the reason of the first refusal that applies; with the third demand and what holds down
-- the page
pub record LayOutPost (ks : List NodeRecord) (l r : ℕ) (figures : List Estimate) (raw width : ℕ) (answer : Result Arrangement Reason) (column x wide : List ℕ) : Type 0 where
  pub refused : (why : Reason) → answer ≡ Err why → answer_at ks l r ≡ Err (refusal why (l + 1))
  pub counted : (a : Arrangement) → answer ≡ Ok a → answer_at ks l r ≡ Ok a.counts
  pub laid : (a : Arrangement) → answer ≡ Ok a → (wrap : ℕ) → take (length ks) figures ≡ estimates wrap ks
      → LaidTable (both_columns ks l r) (joined_boxes wrap ks l r) raw width
      (take (both_columns ks l r) column) (take (length (entries_of (joined_grid ks l r))) x) (take (length (entries_of (joined_grid ks l r))) wide) a.laid
