-- The number of each case of an answer that has several.
use Rattle.std.specs.Prelude.{ℕ}
use Rattle.answers.specs.declared.Way.{Way}
use Rattle.answers.specs.declared.Way.TheVariants.{Sideways, Down}
use Rattle.answers.specs.declared.Under.{Under}
use Rattle.answers.specs.declared.Under.TheVariants.{Cell, Gap, Nothing}
use Rattle.answers.specs.declared.Joint.{Joint}
use Rattle.answers.specs.declared.Joint.TheVariants as joint

-- `layout` and `nested`: 0 sideways, 1 down
unfoldable pub way_number : Way → ℕ
way_number Sideways = 0
way_number Down = 1

-- `at`: 0 nothing, 1 gap, 2 cell
unfoldable pub under_number : {T : Type 0} → Under T → ℕ
under_number (Cell entry) = 2
under_number Gap = 1
under_number Nothing = 0

-- `joining`: 0 plain, 1 up, 2 down, 3 both
unfoldable pub joint_number : Joint → ℕ
joint_number joint.Plain = 0
joint_number joint.Up = 1
joint_number joint.Down = 2
joint_number joint.Both = 3
