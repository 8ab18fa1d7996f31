-- `swar::adds_of` meets its contract: `&` of digits that are 0 or 1 is their product.
use Rattle.swar.proofs.Answers.{adds_answer}
use Rattle.swar.proofs.adds_of.Goals as goal

pub returns : goal.returns
returns c = λ cs ss o v e f. adds_answer c.args.chars c.args.after cs ss o v e f
