-- `placement::place` meets its contract. The loop's invariant, `Rows`: the figures of the rows before r are written up to `from`, and with those of
-- the rows left they are the figures of all rows. The row ends ascend, so the next row's part lies within the slices; its records are a part of
-- the records, and it is written as the definition places it.
use Rattle.placement.proofs.RowsLoop.{Rows}
use Rattle.placement.proofs.place.Given as goal

abbrev pub invariant-loop-row : goal.invariant-loop-row
invariant-loop-row l = Rows l.way l.entries l.rows l.ws l.width l.x l.wide l.from l.row-index
