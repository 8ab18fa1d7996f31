-- A table's entries as records, and the lines that it stands in.
use Rattle.std.specs.Prelude.{List, ℕ, ◌+◌, ◌≤◌, ◌<◌, length, get_or}
use Rattle.common.specs.Limits.{max_lines, max_depth, max_cols}
use Rattle.records.specs.NodeRecord.{no_node}
use Rattle.records.specs.declared.NodeRecord.{NodeRecord}
use Rattle.records.specs.declared.Entry as records
use Rattle.grid.specs.Grid.{Entry, shown_line}

-- an entry as a record, as a listing shows it: line 0 for a filler
abbrev pub shown : Entry → records.Entry
shown e = record { cell = shown_line e; first = e.first; span = e.span }

-- lines of a sheet: a line is at most one deeper than the line before it, and a cell's cols are as they are written
pub record Lined (ks : List NodeRecord) : Type 0 where
  pub short : length ks ≤ max_lines
  pub shallow : (k : ℕ) → (get_or ks k no_node).depth ≤ max_depth
  pub step : (k : ℕ) → k + 1 < length ks → (get_or ks (k + 1) no_node).depth ≤ (get_or ks k no_node).depth + 1
  pub narrow : (k : ℕ) → (get_or ks k no_node).cols ≤ max_cols
