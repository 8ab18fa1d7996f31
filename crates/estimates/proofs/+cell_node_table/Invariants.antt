-- The cycle `node`, `table`, `cell`: each call passes a line and all below it. The loops' invariants say that the lines passed have their
-- estimates, and that what is combined so far, with the lines left, comes to the whole. The measure is three times the lines left, one more
-- for `table` and two more for `node`, which may call for their own line.
use Prim.Native.Nat.{◌+◌, ◌*◌, ◌-◌}
use lib.ListN.{length}
use Rattle.estimates.proofs.Children.{CellLoop}
use Rattle.estimates.proofs.Framing.{TableLoop}
use Rattle.estimates.proofs.+cell_node_table.Given as goal

abbrev pub decreases-cell : goal.decreases-cell
decreases-cell l = 3 * (length l.lines.now - l.at)

abbrev pub decreases-node : goal.decreases-node
decreases-node l = 3 * (length l.lines.now - l.at) + 2

abbrev pub decreases-table : goal.decreases-table
decreases-table l = 3 * (length l.lines.now - l.at) + 1

abbrev pub decreases-below_table : goal.decreases-below_table
decreases-below_table l = 3 * (length l.lines.now - l.at)

abbrev pub invariant-cell-loop-i : goal.invariant-cell-loop-i
invariant-cell-loop-i l = CellLoop l.wrap l.lines l.initial.figures l.figures l.at l.sum l.most l.children l.i

abbrev pub decreases-cell-loop-i : goal.decreases-cell-loop-i
decreases-cell-loop-i l = l.n - l.i

abbrev pub invariant-below_table-loop-i : goal.invariant-below_table-loop-i
invariant-below_table-loop-i l = TableLoop l.wrap l.lines l.initial.figures l.figures l.at l.i

abbrev pub decreases-below_table-loop-i : goal.decreases-below_table-loop-i
decreases-below_table-loop-i l = l.n - l.i
