-- Where a table's lines end, and the scratch that is lent.
use Rattle.std.specs.Prelude.{List, ℕ, ◌/◌, ◌≤◌, ◌<◌, length, get_or}
use Rattle.records.specs.NodeRecord.{no_node}
use Rattle.records.specs.declared.NodeRecord.{NodeRecord}
use Rattle.grid_row.specs.declared.Overhang.{Overhang}

-- the lines of the table at a place end where one is no deeper than the table
pub record EndOfPost (ks : List NodeRecord) (at end : ℕ) : Type 0 where
  pub after : at < end
  pub within : end ≤ length ks
  pub stops : (get_or ks end no_node).depth ≤ (get_or ks at no_node).depth

-- the scratch has a record for each of n lines
pub record MakeInPre (n : ℕ) (cells overhang : List ℕ) (next : List Overhang) : Type 0 where
  pub cell_capacity : n ≤ length cells / 3
  pub overhang_capacity : n ≤ length overhang / 3
  pub next_capacity : n ≤ length next
