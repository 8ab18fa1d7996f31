-- `sheet::finish` meets its contract. Where every table and body is seen to be filled the lines are the answer. The loop's invariant: the answer is that of the checks from the place on. A turn passes one line that is
-- not left empty.
use Rattle.sheet.specs.inner.Steps.{bare}
use Rattle.sheet.proofs.Ending.{EndsFrom}
use Rattle.sheet.proofs.finish.Given as goal

abbrev pub invariant-loop-i : goal.invariant-loop-i
invariant-loop-i l = EndsFrom (bare l.lines) l.i
