-- `output::Output::put_four` meets its contract: the line of the last two numbers is put after the first two (`put_next`).
use native.Mathlib.Omega.{arith}
use Rattle.output.specs.inner.Printing.{line}
use Rattle.output.proofs.Writing.{put_next}
use Rattle.output.proofs.Output.put_four.Goals as goal

pub returns-clause-bytes : goal.returns-clause-bytes
unfolding line
returns-clause-bytes c =
    put_next c.put_ended.ensures.bytes (omega arith) 33
    (put_next c.put_ended-2.ensures.bytes (omega arith) 22 c.put_two.ensures.bytes)
