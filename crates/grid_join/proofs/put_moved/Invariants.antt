-- `grid_join::put_moved` meets its contract. The loop's invariant, `Moving`: so many of the row are written after the first n entries.
use Rattle.grid_join.proofs.Putting.{Moving}
use Rattle.grid_join.proofs.put_moved.Given as goal

abbrev pub invariant-loop-i : goal.invariant-loop-i
invariant-loop-i l = Moving l.row l.by l.n l.initial.entries l.entries l.i
