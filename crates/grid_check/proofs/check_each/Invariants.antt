-- `grid_check::check_each` meets its contract. The loop's invariant, `Sofar`: the verdict on the lines left is that on all.
use Rattle.grid_check.proofs.CheckLoop.{Sofar}
use Rattle.grid_check.proofs.check_each.Given as goal

abbrev pub invariant-loop-t : goal.invariant-loop-t
invariant-loop-t l = Sofar l.lines l.t-counter
