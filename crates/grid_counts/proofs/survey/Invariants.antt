-- `grid_counts::survey` meets its contract. The loop's invariant, `Surveying`: what is counted, with the rows from place j on, is the body.
use Rattle.grid_counts.proofs.SumLoop.{Surveying}
use Rattle.grid_counts.proofs.survey.Given as goal

abbrev pub invariant-loop-j : goal.invariant-loop-j
invariant-loop-j l = Surveying l.lines l.d l.initial.ends l.ends l.rows l.most l.j
