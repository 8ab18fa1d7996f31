-- `output::Output::put_ended` meets its contract: the byte is put after the number (`put_after`).
use native.Mathlib.Omega.{arith}
use Rattle.output.proofs.Writing.{put_after}
use Rattle.output.proofs.Output.put_ended.Goals as goal

pub returns-clause-bytes : goal.returns-clause-bytes
returns-clause-bytes c = put_after c.put_number.ensures.bytes (omega arith) 1 (omega arith) c.put.ensures.bytes
