-- `grid_counts::count_table` meets its contract. The loop's invariant, `TableCounting`: what is counted, with the bodies from place i on, is the table.
use Prim.Native.Nat.{suc, ◌+◌}
use Rattle.resolved_rows.specs.Listed.{table_rows}
use Rattle.grid_counts.proofs.TableLoop.{TableCounting}
use Rattle.grid_counts.proofs.count_table.Given as goal

abbrev pub invariant-loop-i : goal.invariant-loop-i
invariant-loop-i l = TableCounting (table_rows l.lines l.at) (suc (l.at + 1)) l.rest l.d l.n l.i
