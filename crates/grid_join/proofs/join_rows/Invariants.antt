-- `grid_join::join_rows` meets its contract. The loop's invariant, `Sofar`: what is written, with what the rows that are left come to, is the joined grid.
use Rattle.grid_join.proofs.Loop.{Sofar}
use Rattle.grid_join.proofs.join_rows.Given as goal

abbrev pub invariant-loop-i : goal.invariant-loop-i
invariant-loop-i l =
    Sofar l.left.columns l.right.columns l.left.entries.now l.left.rows.now l.right.entries.now l.right.rows.now l.initial.entries l.initial.rows
    l.entries l.rows l.l l.r l.n l.i
