-- The lines of a plain table, row by row.
use Rattle.std.specs.Prelude.{◌≡◌, List, ◌++◌, map, ℕ, ◌+◌, ◌≤◌, length, get_or, take, drop, Option, Some}
use Rattle.common.specs.Lists.{All}
use Rattle.common.specs.Limits.{max_lines, max_depth, max_entries}
use Rattle.records.specs.NodeRecord.{no_node}
use Rattle.records.specs.declared.NodeRecord.{NodeRecord}
use Rattle.records.specs.declared.Entry.{Entry}
use Rattle.records.specs.declared.RowEnd.{RowEnd}
use Rattle.resolved_rows.specs.Cells.{Cell, Frame, frame}
use Rattle.resolved_rows.specs.Cells as cells
use Rattle.grid_build.specs.declared.Counts.{Counts}
use Rattle.grid_build.specs.inner.Records.{shown, TableMade}
use Rattle.grid_plain.specs.declared.RowCells.{RowCells}
use Rattle.grid_plain.specs.inner.Plain.{Plain, plain_entries}

-- what the lines from the place i on hold, below a table of depth d
abbrev pub lines_from : List NodeRecord → ℕ → ℕ → Frame
lines_from ks d i = frame d (i + 1) (drop i ks)

-- the cells of the row whose lines begin, or go on, at the place i
abbrev pub cells_from : List NodeRecord → ℕ → ℕ → List Cell
cells_from ks d i = (lines_from ks d i).cells

-- what the entries of that row take, from entry n on
pub record TryRowPre (ks : List NodeRecord) (d i n : ℕ) (es : List Entry) : Type 0 where
  pub within : i ≤ length ks
  pub short : length ks ≤ max_lines
  pub shallow : d ≤ max_depth
  pub few : n + length (cells_from ks d i) ≤ max_entries
  pub capacity : n + length (cells_from ks d i) ≤ length es

-- the row's lines end at the place `next`, its cells are plain, and their entries stand after those before
pub record RowDone (ks : List NodeRecord) (d i n : ℕ) (end : RowCells) (es₀ es : List Entry) : Type 0 where
  pub after : i ≤ end.next
  pub within : end.next ≤ length ks
  pub stops : (get_or ks end.next no_node).depth ≤ d + 2
  pub rows_are : (lines_from ks d i).rows ≡ (lines_from ks d end.next).rows
  pub bodies_are : (lines_from ks d i).bodies ≡ (lines_from ks d end.next).bodies
  pub plain : All Plain (cells_from ks d i)
  pub count : end.cells ≡ length (cells_from ks d i)
  pub written : take (n + end.cells) es ≡ take n es₀ ++ map shown (plain_entries 0 (cells_from ks d i))

pub record TryRowPost (ks : List NodeRecord) (d i n : ℕ) (found : Option RowCells) (es₀ es : List Entry) : Type 0 where
  pub done : (end : RowCells) → found ≡ Some end → RowDone ks d i n end es₀ es

-- of a table that is found plain the grid is made
pub record TryPlainPost (table : List cells.Row) (found : Option Counts) (es : List Entry) (rs : List RowEnd) : Type 0 where
  pub made : (counts : Counts) → found ≡ Some counts → TableMade table counts es rs
