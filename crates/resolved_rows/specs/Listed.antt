-- Rows of cells as number slices.
use Rattle.std.specs.Prelude.{List, ℕ, ◌+◌, get_or, drop}
use Rattle.records.specs.NodeRecord.{no_node}
use Rattle.records.specs.declared.NodeRecord.{NodeRecord}
use Rattle.resolved_rows.specs.Cells.{Row, rows_under}

-- the resolved rows of the table whose line stands at the place `at`
unfoldable pub table_rows : List NodeRecord → ℕ → List Row
table_rows ks at = rows_under (get_or ks at no_node).depth (at + 1) (drop (at + 1) ks)
