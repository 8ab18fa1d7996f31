-- A sheet opened for one table, by its bytes.
use Rattle.records.specs.declared.NodeRecord.{NodeRecord}
use Rattle.common.specs.declared.Refusal.{Refusal}
use Rattle.std.specs.Prelude.{◌≡◌, List, ℕ, ◌-◌, take, Err, Ok, Result, Some}
use Rattle.text.specs.declared.Estimate.{Estimate}
use Rattle.resolved_rows.specs.Listed.{table_rows}
use Rattle.grid.specs.Facts.{Sound}
use Rattle.sheet_load.specs.Opening.{nodes_of, opened_of}
use Rattle.sheet_load.specs.inner.Measures.{CellsKnown}

unfoldable pub lines_in : Result ℕ Refusal → ℕ
lines_in (Ok n) = n
lines_in (Err why) = 0

-- a sheet accepted for a line: its lines are the first of the records, and the line's table is sound
pub record OpenedAt (s : List ℕ) (line n : ℕ) (lines : List NodeRecord) : Type 0 where
  pub answer : opened_of (Some line) s ≡ Ok n
  pub holds : take n lines ≡ nodes_of s
  pub sound : Sound (table_rows (nodes_of s) (line - 1))

-- and the cells of its table measured
pub record LinesOf (s : List ℕ) (line wrap n : ℕ) (lines : List NodeRecord) (figures : List Estimate) : Type 0 where
  pub opened : OpenedAt s line n lines
  pub measured : CellsKnown wrap (nodes_of s) (line - 1) figures
