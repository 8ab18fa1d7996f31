-- `widths::way_of` meets its contract: a table goes down that is raw, at no width or too wide.
use Rattle.std.proofs.Common.{arith}
use Rattle.std.proofs.lemmas.Grind.{common_steps}
use borrow.Author.Tests.{eq-eqb}
use Rattle.widths.specs.Widths.{way_of}
use Rattle.widths.proofs.way_of.Goals as goal
use Rattle.widths.proofs.way_of.Goals.{then-is_raw, else-is_raw}

pub returns-then-exceeds : goal.returns-then-exceeds
unfolding way_of
returns-then-exceeds c =
    elim c.if-is_raw.branch [
      | then-is_raw w ↦ rw (eq-eqb c.args.raw 1 w.if-is_raw.true)
      | else-is_raw w ↦ grind (arith, common_steps)
    ]
