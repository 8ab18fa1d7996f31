-- `grid_plain::try_row` meets its contract. The loop's invariant, `RowLoop`: the cells so far are plain, with those of the lines still to come they are the
-- row's, and their entries are written. What the walk has left are the lines from the next place on.
use mathlib.Core.Path.{◌≡◌}
use lib.ListN.{drop}
use Rattle.std.specs.Iterator.Adapters.{zip_first, zip_second}
use Rattle.std.specs.Slice.Iter.{iter_rest}
use Rattle.grid_plain.proofs.RowLoop.{RowLoop}
use Rattle.grid_plain.proofs.try_row.Given as goal

abbrev pub invariant-loop-i : goal.invariant-loop-i
invariant-loop-i l =
    let i = (zip_first l.i-iterator).start in
    RowLoop l.lines l.d l.from l.n l.initial.entries l.entries l.k i × (iter_rest (zip_second l.i-iterator) ≡ drop i l.lines)
