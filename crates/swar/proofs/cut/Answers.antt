-- `swar::cut` meets its contract: the zeros of the number are eight for each digit before the first that is not 0, and a power of 256 cuts these off.
use native.Mathlib.Omega.{arith}
use Rattle.swar.proofs.Answers.{cut_answer}
use Rattle.swar.proofs.cut.Goals as goal

pub returns : goal.returns
returns c = λ os xs ss o p q e f g. cut_answer c.args.odd c.requires (omega arith) c.args.adds c.args.after os xs ss o p q e f g
