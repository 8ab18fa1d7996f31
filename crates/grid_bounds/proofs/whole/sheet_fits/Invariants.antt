-- `grid_bounds::whole::sheet_fits` meets its contract. The loop's invariant is `SheetLoop`.
use Rattle.grid_bounds.proofs.SheetLoop.{SheetLoop}
use Rattle.grid_bounds.proofs.whole.sheet_fits.Given as goal

abbrev pub invariant-loop-line : goal.invariant-loop-line
invariant-loop-line l = SheetLoop l.lines l.most l.end l.entries l.line-index
