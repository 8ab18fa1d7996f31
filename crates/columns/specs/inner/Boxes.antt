-- Boxes that tile columns, and boxes cut into rows.
use Rattle.std.specs.Prelude.{List, [], ◌∷◌, ℕ, ◌-◌, ◌≤◌, take, drop}
use Rattle.common.specs.Lists.{Tiles}
use Rattle.columns.specs.Boxes.{Box}

-- the boxes row by row: each row's figure is the number of boxes up to and including it; a of them were taken before
unfoldable pub rows_by : ℕ → List ℕ → List Box → List (List Box)
rows_by a [] bs = []
rows_by a (e ∷ ends) bs = take (e - a) bs ∷ rows_by e ends (drop (e - a) bs)

abbrev pub box_first : Box → ℕ
box_first b = b.first

abbrev pub box_span : Box → ℕ
box_span b = b.span

-- the boxes lie side by side from column p on, without a hole, and end within the columns
abbrev pub BoxesTile : (columns p : ℕ) → List Box → Type 0
BoxesTile columns p bs = Tiles box_first box_span columns p bs

-- no box is wider at the least than in full
unfoldable pub Measures : List Box → Type 0
Measures [] = Unit {0}
Measures (b ∷ bs) = (b.least ≤ b.size) × Measures bs

-- each row tiles the columns from 0 on
unfoldable pub TilesAll : ℕ → List (List Box) → Type 0
TilesAll columns [] = Unit {0}
TilesAll columns (r ∷ rs) = BoxesTile columns 0 r × Measures r × TilesAll columns rs
