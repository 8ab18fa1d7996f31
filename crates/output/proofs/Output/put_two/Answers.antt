-- `output::Output::put_two` meets its contract: the second number is put after the first (`put_next`).
use native.Mathlib.Omega.{arith}
use Rattle.output.specs.inner.Printing.{line}
use Rattle.output.proofs.Writing.{put_next}
use Rattle.output.proofs.Output.put_two.Goals as goal

pub returns-clause-bytes : goal.returns-clause-bytes
unfolding line
returns-clause-bytes c = put_next c.put_ended.ensures.bytes (omega arith) 11 c.put_ended-2.ensures.bytes
