-- `grid_bounds::table_fits` meets its contract. The loop's invariant is `Bounding`.
use Prim.Native.Nat.{◌+◌}
use Rattle.grid_bounds.proofs.BoundLoop.{Bounding}
use Rattle.grid_bounds.proofs.table_fits.Given as goal

abbrev pub invariant-loop-line : goal.invariant-loop-line
invariant-loop-line l = Bounding l.lines l.at l.hung l.end l.entries (l.at + 1 + l.line-index)
