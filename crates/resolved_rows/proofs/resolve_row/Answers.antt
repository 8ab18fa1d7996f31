-- `resolved_rows::resolve_row` meets its contract. The loop's invariant (`Resolving`): the first i cells are resolved, the others are as they were, and every
-- line stays. A turn writes the cell at place i. The measure is the number of cells left.
use native.Mathlib.Omega.{arith}
use Rattle.resolved_rows.proofs.Resolving.{row_turn, row_stop}
use Rattle.resolved_rows.proofs.resolve_row.Goals as goal

pub loop-i-preserved : goal.loop-i-preserved
loop-i-preserved c = row_turn c.loop-i.invariant (omega (arith, c.loop-i.invariant.long, c.loop-i-test.true)) _ c.cell_at-c.ensures _ _ c.filled.ensures c.rows_within.ensures _ c.put_cell.auto.cells c.put_cell.ensures

pub returns : goal.returns
returns c = row_stop c.loop-i.invariant (omega (arith, c.loop-i.invariant.long, c.loop-i-test.false))
