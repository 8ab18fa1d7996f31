-- `swar::chars_of` meets its contract: 95 more make 128 of 33.
use Rattle.swar.proofs.Answers.{chars_answer}
use Rattle.swar.proofs.chars_of.Goals as goal

pub returns : goal.returns
returns c = chars_answer _ _ c.tops.ensures
