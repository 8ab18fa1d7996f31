-- `swar::tops` meets its contract.
use Rattle.swar.proofs.Answers.{tops_answer}
use Rattle.swar.proofs.tops.Goals as goal

pub returns : goal.returns
returns c = tops_answer c.args.w
