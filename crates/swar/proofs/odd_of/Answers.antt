-- `swar::odd_of` meets its contract: 96 more make 128 of 32, and 1 more makes it of 127.
use Rattle.swar.proofs.Answers.{odd_answer}
use Rattle.swar.proofs.odd_of.Goals as goal

pub returns : goal.returns
returns c = odd_answer _ _ _ c.tops.ensures c.tops-2.ensures
