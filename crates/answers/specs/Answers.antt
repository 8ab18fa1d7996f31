-- The answers by their figures.
use Rattle.std.specs.Prelude.{ℕ}
use Rattle.answers.specs.declared.Way.{Way}
use Rattle.answers.specs.declared.Grid.{Grid}
use Rattle.answers.specs.declared.Layout.{Layout}
use Rattle.answers.specs.declared.Causes.{Causes}
use Rattle.answers.specs.declared.Nested.{Nested}

abbrev pub grid_with : (rows entries columns : ℕ) → Grid
grid_with rows entries columns = record { rows = rows; entries = entries; columns = columns }

abbrev pub layout_with : Way → (entries columns width : ℕ) → Layout
layout_with way entries columns width = record { way = way; entries = entries; columns = columns; width = width }

abbrev pub causes_with : (count columns : ℕ) → Causes
causes_with count columns = record { count = count; columns = columns }

abbrev pub nested_with : ℕ → Layout → Nested
nested_with at layout = record { at = at; layout = layout }
