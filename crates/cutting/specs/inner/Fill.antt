-- How the code cuts: what is asked for, and widths at a level of which the first columns in the order of the characters left over have one more.
use Rattle.std.specs.Prelude.{cond, ◌≡◌, List, [], ◌∷◌, ℕ, suc, ◌+◌, ◌-◌, ◌*◌, ◌≤◌, min, ltb, length}
use Rattle.common.specs.Lists.{sum}
use Rattle.common.specs.Limits.{max_lines}
use Rattle.cutting.specs.Cut.{gaps, Below}

-- the sum of so few 32 bit figures that it fits 64 bits, and a sum with it
pub record Summed (figures : List ℕ) (r : ℕ) : Type 0 where
  pub is : r ≡ sum figures
  pub small : r ≤ 4294967295 * max_lines

-- widths that can be cut to fit the width: none is below its least, and the leasts with their gaps fit
pub record CutWidthsPre (leasts wide : List ℕ) (width : ℕ) : Type 0 where
  pub above : Below leasts wide
  pub few : length wide ≤ max_lines
  pub capacity : sum leasts + gaps (length leasts) ≤ width

-- the same where the gaps are taken off the width
pub record HoldsLeasts (leasts wide : List ℕ) (capacity : ℕ) : Type 0 where
  pub above : Below leasts wide
  pub few : length wide ≤ max_lines
  pub enough : sum leasts ≤ capacity

-- the place of column i, of the least l, in the order of the characters left over: the smaller least first, then the higher column
abbrev pub place : ℕ → ℕ → ℕ
place l i = l * max_lines + (max_lines - 1 - i)

-- the width at level t of a column at the place p: one more, if its share has it, where its place is below the bound b
unfoldable pub width_at : ℕ → ℕ → ℕ → ℕ → ℕ → ℕ
width_at l s t p b = l + min (s - l) (t + cond (ltb p b) 1 0)

-- the widths of the columns from i on
unfoldable pub filled_from : ℕ → List ℕ → List ℕ → ℕ → ℕ → List ℕ
filled_from i [] ss t b = []
filled_from i (l ∷ ls) [] t b = []
filled_from i (l ∷ ls) (s ∷ ss) t b = width_at l s t (place l i) b ∷ filled_from (suc i) ls ss t b

-- the widths at level t, with one more for each column whose place is below b
abbrev pub filled : List ℕ → List ℕ → ℕ → ℕ → List ℕ
filled ls ss t b = filled_from 0 ls ss t b
