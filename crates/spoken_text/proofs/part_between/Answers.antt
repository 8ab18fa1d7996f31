-- `spoken_text::part_between` meets its contract.
use borrow.Author.Tests.{eq-eqb, ne_eqb}
use Rattle.spoken_text.specs.inner.Places.{part_between}
use Rattle.spoken_text.proofs.part_between.Goals as goal

pub returns-then-from-to : goal.returns-then-from-to
unfolding part_between
returns-then-from-to c = rw (eq-eqb c.args.from c.args.to c.if-from-to.true)

pub returns : goal.returns
unfolding part_between
returns c = rw (ne_eqb c.args.from c.args.to c.if-from-to.false)
