-- `hit_test::PlacedRow::joining` meets its contract: the joint of what the row and the next have at the column.
use mathlib.Core.Path.{ap₂, ◌∙◌}
use Rattle.hit_test.specs.Point.{joint_of}
use Rattle.hit_test.proofs.PlacedRow.joining.Goals as goal

pub returns : goal.returns
returns c = c.joint_of.ensures ∙ ap₂ joint_of c.gap_at.ensures c.gap_at-2.ensures
