-- What is found of two tables in a sheet, where the checks pass or one of them refuses.
use Rattle.answers.specs.declared.Grid.{Grid}
use Rattle.answers.specs.declared.Layout.{Layout}
use Rattle.common.specs.declared.Refusal.{Refusal}
use Rattle.std.specs.Prelude.{List, ℕ, length, Result}
use Rattle.common.specs.Refusals.{Check}
use Rattle.grid.specs.Grid.{entries_of}
use Rattle.call_grid.specs.inner.Found.{GridOf}
use Rattle.call_layout.specs.inner.Found.{LayoutOf}
use Rattle.call_joined.specs.Joined.{joined_rows, joined_columns, joined_boxes_at}

-- the joined grid of the tables in lines l and r
abbrev pub JoinedGridFound : List Check → (s : List ℕ) (l r : ℕ) → Result Grid Refusal → (cell first' span row end : List ℕ) → Type 0
JoinedGridFound cs s l r = GridOf cs (joined_rows s l r) (joined_columns s l r)

-- its layout
abbrev pub JoinedLayoutFound : List Check → (s : List ℕ) (l r wrap raw width : ℕ) → Result Layout Refusal → (column x wide : List ℕ) → Type 0
JoinedLayoutFound cs s l r wrap raw width =
    LayoutOf cs (length (entries_of (joined_rows s l r))) (joined_columns s l r) (joined_boxes_at s l r wrap) raw width
