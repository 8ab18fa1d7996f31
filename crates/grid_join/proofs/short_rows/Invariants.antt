-- `grid_join::short_rows` meets its contract. The loop's invariant, `Counted`: the short rows so far, with those that are left, are all.
use Rattle.grid_join.proofs.Loop.{Counted}
use Rattle.grid_join.proofs.short_rows.Given as goal

abbrev pub invariant-loop-row : goal.invariant-loop-row
invariant-loop-row l = Counted l.left.columns l.left.entries.now l.left.rows.now l.from l.n l.row-index
