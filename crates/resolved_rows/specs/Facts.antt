-- What holds of the resolved rows of every table, for the capacities above. These are statements; proofs/ has their proofs.
use Rattle.std.specs.Prelude.{List, [], ◌∷◌, ℕ, suc, ◌+◌, ◌*◌, ◌≤◌, ◌<◌, length}
use Prim.{Unit}
use Rattle.common.specs.Lists.{All}
use Rattle.common.specs.Limits.{max_cols}
use Rattle.records.specs.declared.NodeRecord.{NodeRecord}
use Rattle.resolved_rows.specs.Cells.{Cell, Row}

-- a line's cols are in range
pub record LineFits (l : NodeRecord) : Type 0 where
  pub narrow : l.cols ≤ max_cols

-- a resolved cell of the table of line t, where n lines follow the table's line
pub record CellFits (t n : ℕ) (c : Cell) : Type 0 where
  pub after : t < c.line
  pub within : c.line ≤ t + n
  pub wide : 1 ≤ c.cols
  pub narrow : c.cols ≤ n * max_cols + 1
  pub tall : 1 ≤ c.rows
  pub short : c.rows ≤ n

-- a resolved row of that table
pub record RowFits (t n : ℕ) (r : Row) : Type 0 where
  pub after : t < r.line
  pub within : r.line ≤ t + n
  pub cells : All (CellFits t n) r.cells

-- each cell of a body takes a row at least, and no span leaves the body: it takes no more than its own row and those after it
abbrev pub Ending : List Row → Type 0
Ending [] = Unit {0}
Ending (r ∷ rs) = All (λ c. (1 ≤ c.rows) × (c.rows ≤ suc (length rs))) r.cells × Ending rs
