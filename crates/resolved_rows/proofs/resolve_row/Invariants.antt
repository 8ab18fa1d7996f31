-- `resolved_rows::resolve_row` meets its contract. The loop's invariant (`Resolving`): the first i cells are resolved, the others are as they were, and every
-- line stays. A turn writes the cell at place i.
use Rattle.resolved_rows.proofs.Resolving.{Resolving}
use Rattle.resolved_rows.proofs.resolve_row.Given as goal

abbrev pub invariant-loop-i : goal.invariant-loop-i
invariant-loop-i l = Resolving l.instead l.left l.initial.cells l.cells l.i
