-- `expression::reckoned` meets its contract: std's checked step, within the bounds.
use mathlib.Core.Path.{◌∙◌}
use Rattle.std.proofs.Math.Facts.{to_z-of_z}
use Rattle.expression.specs.Tree.{result_of}
use Rattle.expression.proofs.Steps.{checked, divided}
use Rattle.expression.proofs.reckoned.Goals as goal

pub returns-in-Plus : goal.returns-in-Plus
unfolding result_of
returns-in-Plus c = rw c.in-Plus.is (c.bounded.ensures ∙ checked _ _ (simp (to_z-of_z c.ranges.a, to_z-of_z c.ranges.b) at c.checked_add.ensures))

pub returns-in-Minus : goal.returns-in-Minus
unfolding result_of
returns-in-Minus c = rw c.in-Minus.is (c.bounded-in-Minus.ensures ∙ checked _ _ (simp (to_z-of_z c.ranges.a, to_z-of_z c.ranges.b) at c.checked_sub.ensures))

pub returns-in-Times : goal.returns-in-Times
unfolding result_of
returns-in-Times c = rw c.in-Times.is (c.bounded-in-Times.ensures ∙ checked _ _ (simp (to_z-of_z c.ranges.a, to_z-of_z c.ranges.b) at c.checked_mul.ensures))

pub returns-in-Over : goal.returns-in-Over
returns-in-Over c = rw c.in-Over.is (c.bounded-in-Over.ensures ∙ divided _ _ _ c.ranges.b (simp (to_z-of_z c.ranges.a, to_z-of_z c.ranges.b) at c.checked_div.ensures))
