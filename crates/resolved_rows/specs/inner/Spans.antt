-- Rows of which only the cells' cols or only their rows are held, in one slice, and where each row's cells end, in another.
use Rattle.std.specs.Prelude.{◌≡◌, List, [], ◌∷◌, ◌++◌, map, ℕ, ◌-◌, ◌*◌, ◌≤◌, ◌<◌, length, get_or, take, drop}
use Prim.{Unit}
use Rattle.common.specs.Limits.{max_lines, max_cols}
use Rattle.resolved_rows.specs.Cells.{Cell, Row, cell, row, widest, resolve_cell, fill_body, taken}
use Rattle.resolved_rows.specs.inner.Listed.{cell_cols, all_cells}

-- cells of which only the cols are known
abbrev pub bare : List ℕ → List Cell
bare spans = map (λ s. cell 0 s 0) spans

-- the figures from place a up to place e
abbrev pub part : ℕ → ℕ → List ℕ → List ℕ
part a e l = take (e - a) (drop a l)

-- the rows whose cells end at the given places; the first one's begin at place a
unfoldable pub rows_at : ℕ → List ℕ → List ℕ → List Row
rows_at a [] spans = []
rows_at a (e ∷ es) spans = row 0 (bare (part a e spans)) ∷ rows_at e es spans

-- where the last row's cells end
unfoldable pub last_end : ℕ → List ℕ → ℕ
last_end a [] = a
last_end a (e ∷ es) = last_end e es

-- no row's cells end before they begin
abbrev pub Rising : ℕ → List ℕ → Type 0
Rising a [] = Unit {0}
Rising a (e ∷ es) = (a ≤ e) × Rising e es

-- cols as they are written, few enough for their sum
pub record Narrow (spans : List ℕ) : Type 0 where
  pub few : length spans ≤ max_lines
  pub narrow : (k : ℕ) → get_or spans k 0 ≤ max_cols

-- a body: its rows' cells stand in the slice and are as they are written
pub record BodyHeld (a : ℕ) (ends spans : List ℕ) : Type 0 where
  pub rising : Rising a ends
  pub few : last_end a ends ≤ max_lines
  pub held : last_end a ends ≤ length spans
  pub narrow : (k : ℕ) → a ≤ k → k < last_end a ends → get_or spans k 0 ≤ max_cols

-- the largest sum of the rows, which is no larger than all cells of a sheet can come to
pub record LargestSum (rs : List Row) (most : ℕ) : Type 0 where
  pub is : most ≡ widest rs
  pub small : most ≤ max_lines * max_cols

-- the rows are written back; what stands before them and after them stays
pub record WrittenBack (rs : List Row) (a : ℕ) (ends before after : List ℕ) : Type 0 where
  pub spans : after ≡ (take a before ++ map cell_cols (all_cells rs)) ++ drop (last_end a ends) before

-- what the rows of a body's cells become, each row's cut to the rows that are left after it
unfoldable pub cut_at : ℕ → List ℕ → List ℕ → List ℕ
cut_at a [] rows = []
cut_at a (e ∷ es) rows = map (taken (length es)) (part a e rows) ++ cut_at e es rows

-- a body, of whose cells the rows are held
pub record RowsHeld (a : ℕ) (ends rows : List ℕ) : Type 0 where
  pub rising : Rising a ends
  pub short : length ends ≤ max_lines
  pub few : last_end a ends ≤ max_lines
  pub held : last_end a ends ≤ length rows

-- they are cut; what stands before them and after them stays
pub record CutBack (a : ℕ) (ends before after : List ℕ) : Type 0 where
  pub rows : after ≡ (take a before ++ cut_at a ends before) ++ drop (last_end a ends) before

-- a body is resolved
pub record BodyDone (a : ℕ) (ends spans₀ rows₀ spans rows : List ℕ) : Type 0 where
  pub cols : WrittenBack (fill_body (rows_at a ends spans₀)) a ends spans₀ spans
  pub cut : CutBack a ends rows₀ rows

-- the cells of a row are resolved, in a body of which so many rows are left; their lines stay
pub record ResolveRowPost (instead left : ℕ) (lines₀ spans₀ rows₀ lines spans rows : List ℕ) : Type 0 where
  pub same : lines ≡ lines₀
  pub filled : spans ≡ map cell_cols (map (resolve_cell instead) (bare spans₀))
  pub cut : rows ≡ map (taken left) rows₀

-- and those of a body
pub record BodyResolved (a : ℕ) (ends lines₀ spans₀ rows₀ lines spans rows : List ℕ) : Type 0 where
  pub same : lines ≡ lines₀
  pub done : BodyDone a ends spans₀ rows₀ spans rows
