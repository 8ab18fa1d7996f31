-- What holds of two tables of a sheet side by side. proofs/Whole has the proof.
use Rattle.std.specs.Prelude.{◌≡◌, List, map, ℕ, ◌<◌, max, length}
use Rattle.common.specs.Lists.{All}
use Rattle.records.specs.declared.NodeRecord.{NodeRecord}
use Rattle.resolved_rows.specs.Listed.{table_rows}
use Rattle.grid.specs.Grid.{grid_of, columns_of, entries_of}
use Rattle.grid.specs.Facts.{Sound}
use Rattle.grid.specs.Judging.{Lined}
use Rattle.grid_join.specs.Joined.{moved}
use Rattle.grid_join.specs.Facts.{RowTiles, Reaches, in_left, in_right, only}
use Rattle.joined_tables.specs.Tables.{both_columns, joined_grid}

-- two tables of an accepted sheet
pub record Tables (ks : List NodeRecord) (l r : ℕ) : Type 0 where
  pub lined : Lined ks
  pub left_within : l < length ks
  pub right_within : r < length ks
  pub left_sound : Sound (table_rows ks l)
  pub right_sound : Sound (table_rows ks r)

-- every row tiles the columns of both from 0 on, some row reaches the last of them, there are as many rows as the longer table has; all entries of the left
-- table stand there once and in order, and all of the right one, moved by the left's columns, and every other entry is an empty one
pub record SideBySide (ks : List NodeRecord) (l r : ℕ) : Type 0 where
  pub tiles : All (RowTiles (both_columns ks l r)) (joined_grid ks l r)
  pub reaches : Reaches (both_columns ks l r) (joined_grid ks l r)
  pub rows : length (joined_grid ks l r) ≡ max (length (grid_of (table_rows ks l))) (length (grid_of (table_rows ks r)))
  pub left : only (in_left (columns_of (table_rows ks l))) (entries_of (joined_grid ks l r)) ≡ entries_of (grid_of (table_rows ks l))
  pub right : only (in_right (columns_of (table_rows ks l))) (entries_of (joined_grid ks l r)) ≡ map (moved (columns_of (table_rows ks l))) (entries_of (grid_of (table_rows ks r)))
