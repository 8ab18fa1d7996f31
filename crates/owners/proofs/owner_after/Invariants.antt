-- `owner_after` meets its contract. The loop's invariant, `Sofar`: what hangs, the cells to come and the entries to come follow.
use Rattle.resolved_rows.specs.Listed.{table_rows}
use Rattle.resolved_rows.specs.inner.Listed.{all_cells}
use Rattle.owners.proofs.Tables.{table_items}
use Rattle.owners.proofs.OwnerLoop.{Sofar}
use Rattle.owners.proofs.owner_after.Given as goal

abbrev pub invariant-loop-e : goal.invariant-loop-e
invariant-loop-e l = Sofar (all_cells (table_rows l.lines l.at)) (table_items l.lines l.at) l.hung l.e-index l.i l.h l.k
