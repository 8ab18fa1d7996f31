-- `window::count_before` meets its contract. The loop's invariant, `Counted`: so many counts are written.
use Rattle.window.proofs.Counts.{Counted}
use Rattle.window.proofs.count_before.Given as goal

abbrev pub invariant-loop-j : goal.invariant-loop-j
invariant-loop-j l = Counted l.column l.fn.before l.before l.n l.j
