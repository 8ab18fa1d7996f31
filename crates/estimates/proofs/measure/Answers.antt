-- `estimates::measure` meets its contract: the walk from the first line goes over all lines.
use Rattle.estimates.proofs.Whole.{measured}
use Rattle.estimates.proofs.measure.Goals as goal

pub returns : goal.returns
returns c =
    measured c.requires.sheet c.node.ensures
    c.node.auto.figures
