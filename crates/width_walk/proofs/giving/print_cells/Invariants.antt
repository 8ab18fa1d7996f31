-- `width_walk::giving::print_cells` meets its contract. The loop's invariant (`Sofar`): what is passed is written.
use Rattle.std.specs.Iterator.Adapters.{rev_source, zip_first, zip_second}
use Rattle.std.specs.Slice.Iter.{iter_rest}
use Rattle.width_walk.proofs.CellLoop.{Sofar}
use Rattle.width_walk.proofs.giving.print_cells.Given as goal

abbrev pub invariant-loop-e : goal.invariant-loop-e
invariant-loop-e l = Sofar l.entries l.wide l.initial.walk l.walk (iter_rest (rev_source (zip_first l.e-iterator))) (iter_rest (rev_source (zip_second l.e-iterator)))
