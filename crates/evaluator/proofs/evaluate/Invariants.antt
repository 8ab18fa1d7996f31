-- `evaluator::evaluate` meets its contract. The loop's invariant is `Sofar`, whose laws stand in proofs/Sofar.antt: each need is one of them.
use Rattle.evaluator.proofs.Sofar.{Sofar}
use Rattle.evaluator.proofs.evaluate.Given as goal

abbrev pub invariant-loop-c : goal.invariant-loop-c
invariant-loop-c l = Sofar l.text l.outer l.depth l.place l.c-index
