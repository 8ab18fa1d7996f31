-- `resolved_rows::widest_row` meets its contract. The loop's invariant, `Widening`: the larger of what is found and of the largest sum of the rows
-- from row j on is the body's largest sum, and `from` is where row j begins. Each row's cells lie within the body's (`row_ends_fits`), so the
-- parts of the slice are within it.
use Rattle.resolved_rows.specs.inner.Held.{spans_of}
use Rattle.records.specs.inner.Figures.{row_ends_of}
use Rattle.resolved_rows.proofs.Bodies.{Widening}
use Rattle.resolved_rows.proofs.widest_row.Given as goal

abbrev pub invariant-loop-row : goal.invariant-loop-row
invariant-loop-row l = Widening l.first (row_ends_of l.rows) (spans_of l.cells) l.most l.from l.row-index
