-- `grid_counts::count_row` meets its contract. The loop's invariant, `Counting`: what is counted, with what the cells from the next line on add, is what the
-- row adds.
use Rattle.grid_counts.proofs.RowLoop.{Counting}
use Rattle.grid_counts.proofs.count_row.Given as goal

abbrev pub invariant-loop-line : goal.invariant-loop-line
invariant-loop-line l = Counting l.lines l.d l.instead l.left l.fn.before.reach l.fn.before.entries l.initial.ends l.ends l.sum l.n l.line-index
