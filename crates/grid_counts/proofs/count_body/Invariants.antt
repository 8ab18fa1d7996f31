-- `grid_counts::count_body` meets its contract. The loop's invariant, `BodyCounting`: what is counted, with the rows from place j on, is the body.
use Rattle.grid_counts.proofs.BodyLoop.{BodyCounting}
use Rattle.grid_counts.proofs.count_body.Given as goal

abbrev pub invariant-loop-j : goal.invariant-loop-j
invariant-loop-j l = BodyCounting l.lines l.d l.rows l.most l.entries l.initial.ends l.ends l.reach l.n l.q l.j
