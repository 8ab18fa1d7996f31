-- `swar::after_of` meets its contract: the digits of what is no character, one place on.
use Rattle.swar.proofs.Answers.{after_answer}
use Rattle.swar.proofs.after_of.Goals as goal

pub returns : goal.returns
returns c = λ cs o e. rw c.from.ensures (after_answer c.args.chars c.args.gap cs o e)
