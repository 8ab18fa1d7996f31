-- `hit_test::PlacedRow::gap_at` meets its contract: what `at` answers is what the row has at the column, whatever the number of its first entry.
use mathlib.Core.Path.{refl, ◌∙◌}
use Rattle.hit_test.specs.Point.{is_gap}
use Rattle.hit_test.proofs.Gaps.{gap_told, no_gap}
use Rattle.hit_test.proofs.PlacedRow.gap_at.Goals as goal

pub returns-in-Gap : goal.returns-in-Gap
unfolding is_gap
returns-in-Gap c = gap_told _ _ _ _ _ c.at.ensures c.in-Gap.is

pub returns-in_default : goal.returns-in_default
returns-in_default c = no_gap _ c.in_default.not-Gap ∙ gap_told _ _ _ _ _ c.at.ensures refl
