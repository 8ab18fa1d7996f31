-- Where each entry of a row stands, and how wide it is.
use Rattle.std.specs.Prelude.{cond, List, [], ◌∷◌, ◌++◌, map, ℕ, ◌+◌, ◌-◌, eqb, take, drop}
use Rattle.common.specs.Lists.{sum}
use Rattle.columns.specs.Boxes.{Box}
use Rattle.answers.specs.declared.Way.{Way}
use Rattle.answers.specs.declared.Way.TheVariants.{Sideways, Down}

-- x, and the width; a missing entry has the width 0, and sideways the x at which it was left out, down 0
pub record Placed : Type 0 where
  pub x : ℕ
  pub width : ℕ

abbrev pub at : ℕ → ℕ → Placed
at x width = record { x = x; width = width }

-- the sum of the widths of the box's columns
abbrev pub across : List ℕ → Box → ℕ
across ws b = sum (take b.span (drop b.first ws))

-- sideways, from x on: missing if its columns sum to 0, and x stands still; else as wide as they and the gaps between them, and x
-- moves past it and one character column more
unfoldable pub place_side : List ℕ → ℕ → List Box → List Placed
place_side ws x [] = []
place_side ws x (b ∷ bs) =
    cond (eqb (across ws b) 0) (at x 0 ∷ place_side ws x bs) (at x (across ws b + b.span - 1) ∷ place_side ws (x + (across ws b + b.span)) bs)

-- down: every entry at 0, and as wide as the page; where that has the width 0 all are missing
unfoldable pub place_down : ℕ → List Box → List Placed
place_down width bs = map (λ (b : Box). at 0 width) bs

-- a row, sideways from x = 0 on
unfoldable pub place_row : Way → List ℕ → ℕ → List Box → List Placed
place_row Sideways ws width r = place_side ws 0 r
place_row Down ws width r = place_down width r

-- all rows, one after the other
unfoldable pub place_rows : Way → List ℕ → ℕ → List (List Box) → List Placed
place_rows way ws width [] = []
place_rows way ws width (r ∷ rs) = place_row way ws width r ++ place_rows way ws width rs
