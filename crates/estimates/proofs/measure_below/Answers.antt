-- `estimates::measure_below` meets its contract: where all below the table is passed, its cells are measured.
use Rattle.estimates.proofs.Framing.{below_end}
use Rattle.estimates.proofs.measure_below.Goals as goal

pub returns : goal.returns
returns c =
    below_end c.requires.lent.sheet c.below_table.ensures
    c.below_table.auto.figures
