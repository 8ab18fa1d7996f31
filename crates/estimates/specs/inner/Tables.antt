-- What measuring asks of a sheet's tables. Place k holds line k + 1.
use Rattle.std.specs.Prelude.{◌≡◌, List, ℕ, ◌≤◌, ◌<◌, length, get_or}
use Rattle.kinds.specs.Kinds.{kind_number, table_kind}
use Rattle.records.specs.NodeRecord.{no_node}
use Rattle.records.specs.declared.NodeRecord.{NodeRecord}
use Rattle.resolved_rows.specs.Listed.{table_rows}
use Rattle.grid_positions.specs.Positions.{all_rows, entry_count}
use Rattle.grid.specs.Facts.{Sound}

-- every table of the lines is sound, and there are so many records, which do for the entries of each
pub record TablesFit (ls : List NodeRecord) (records : ℕ) : Type 0 where
  pub sound : (t : ℕ) → t < length ls → kind_number (get_or ls t no_node).kind ≡ table_kind → Sound (table_rows ls t)
  pub capacity : (t : ℕ) → t < length ls → kind_number (get_or ls t no_node).kind ≡ table_kind → entry_count (all_rows (table_rows ls t)) ≤ records
