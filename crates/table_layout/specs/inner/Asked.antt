-- The line that a call asks for, records for the grid of its table, and buffers for its layout.
use Rattle.std.specs.Prelude.{◌≡◌, List, ℕ, ◌-◌, ◌≤◌, ◌<◌, length, get_or}
use Rattle.common.specs.Limits.{max_entries, max_lines}
use Rattle.kinds.specs.Kinds.{kind_number, table_kind}
use Rattle.records.specs.NodeRecord.{no_node}
use Rattle.records.specs.declared.NodeRecord.{NodeRecord}
use Rattle.resolved_rows.specs.Listed.{table_rows}
use Rattle.grid_positions.specs.Positions.{all_rows, entry_count}
use Rattle.grid.specs.Facts.{Sound}
use Rattle.grid.specs.Judging.{Lined}
use Rattle.grid_bounds.specs.inner.Sheets.{Nests}

-- a line that is a table of an accepted sheet
pub record Asked (ks : List NodeRecord) (line : ℕ) : Type 0 where
  pub from_one : 1 ≤ line
  pub within : line - 1 < length ks
  pub kind : kind_number (get_or ks (line - 1) no_node).kind ≡ table_kind
  pub lined : Lined ks
  pub nests : Nests ks
  pub sound : Sound (table_rows ks (line - 1))

-- its table has at most so many entries, and the sheet so many lines
pub record Most (entries rows : ℕ) (ks : List NodeRecord) (line : ℕ) : Type 0 where
  pub entries_most : entry_count (all_rows (table_rows ks (line - 1))) ≤ entries
  pub lines_most : length ks ≤ rows

-- the lent buffers have the places of a table's columns, and of its entries
pub record OutCapacity (column x wide : List ℕ) : Type 0 where
  pub column_capacity : max_lines ≤ length column
  pub x_capacity : max_entries ≤ length x
  pub wide_capacity : max_entries ≤ length wide
