-- What measuring the lines of a sheet takes and promises.
use Rattle.std.specs.Prelude.{◌≡◌, List, ◌++◌, ℕ, ◌≤◌, ◌<◌, length, get_or, drop}
use Rattle.common.specs.Limits.{max_position}
use Rattle.text.specs.declared.Estimate.{Estimate}
use Rattle.records.specs.declared.NodeRecord.{NodeRecord}
use Rattle.records.specs.declared.Entry.{Entry}
use Rattle.records.specs.declared.RowEnd.{RowEnd}
use Rattle.grid.specs.Facts.{CellOf}
use Rattle.grid.specs.Judging.{Lined}
use Rattle.estimates.specs.Estimates.{none, estimates}
use Rattle.estimates.specs.inner.Tables.{TablesFit}
use Rattle.estimates.specs.inner.Sheet.{Sheet}
use Rattle.estimates.specs.Meets.{Bounded}

-- a sheet whose tables are sound, results with a place for each line, and scratch for the columns, entries and rows of a table
pub record Lent (ls : List NodeRecord) (b : List Estimate) (leasts : List ℕ) (es : List Entry) (rs : List RowEnd) : Type 0 where
  pub sheet : Sheet ls
  pub lined : Lined ls
  pub tables : TablesFit ls (length es)
  pub results : length ls ≤ length b
  pub scratch : max_position ≤ length leasts
  pub row_capacity : length ls ≤ length rs

-- the estimates stand in the front of the results c, and what else was there stays
pub record Measured (wrap : ℕ) (ls : List NodeRecord) (b c : List Estimate) : Type 0 where
  pub results : c ≡ estimates wrap ls ++ drop (length ls) b
  pub sound : (k : ℕ) → k < length ls → Bounded (get_or (estimates wrap ls) k none)

-- the cells of the table at a place are measured, and the results keep their length
pub record CellsMeasured (wrap : ℕ) (ls : List NodeRecord) (at : ℕ) (b c : List Estimate) : Type 0 where
  pub cells : (k : ℕ) → CellOf ls at k → get_or c k none ≡ get_or (estimates wrap ls) k none
  pub sound : (k : ℕ) → CellOf ls at k → Bounded (get_or (estimates wrap ls) k none)
  pub sized : length c ≡ length b
