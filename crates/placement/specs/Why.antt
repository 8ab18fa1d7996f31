-- Why a column of a table that lies sideways is 0 wide, for those who teach which cells can go missing.
use Rattle.std.specs.Prelude.{cond, ◌&&◌, ◌≡◌, List, ℕ, ◌+◌, ◌*◌, ◌≤◌, ◌<◌, eqb, ltb, length, get_or}
use Rattle.common.specs.Lists.{sum}
use Rattle.columns.specs.Columns.{up_to}
use Rattle.cutting.specs.Cut.{gaps}
use Rattle.widths.specs.Share.{shares}

-- 1 if column k stands after column j, its least width is 0 and its share is not
abbrev pub later_one : List ℕ → List ℕ → ℕ → ℕ → ℕ
later_one leasts ss j k = cond (ltb j k && (eqb (get_or leasts k 0) 0 && ltb 0 (get_or ss k 0))) 1 0

-- how many such columns there are
unfoldable pub later : List ℕ → List ℕ → ℕ → ℕ
later leasts ss j = sum (up_to (length ss) (later_one leasts ss j))

-- why column j, whose least width is 0, is 0 wide: it is empty; or its part of the width is below one character; or the width holds no more
-- than the gaps, the least widths and a character for each later column that has a share and no least width, so that its share is cut away
pub data Why (sizes leasts : List ℕ) (width j : ℕ) : Type 0 where
  empty : get_or sizes j 0 ≡ 0 → Why sizes leasts width j
  little : get_or sizes j 0 * width < sum sizes → Why sizes leasts width j
  cut_away : width ≤ sum leasts + later leasts (shares sizes leasts width) j + gaps (length sizes) → Why sizes leasts width j
