-- A bound on where the rows of a body end and on how many entries it has, of the cells as they are written: what hangs is taken to hang to the body's
-- end, and a cell to take all the rows that it asks for. A cols 0 or a rows 0 passes every bound.
use Rattle.std.specs.Prelude.{◌≡◌, cond, List, [], ◌∷◌, map, ℕ, suc, ◌+◌, ◌≤◌, eqb}
use Prim.{Unit}
use Rattle.common.specs.Lists.{sum}
use Rattle.common.specs.Limits.{max_position, max_entries}
use Rattle.resolved_rows.specs.Cells.{Cell, Row}
use Rattle.resolved_rows.specs.inner.Listed.{all_cells}

abbrev pub wide_of : Cell → ℕ
wide_of c = cond (eqb c.cols 0) (suc max_position) c.cols

abbrev pub hung_of : Cell → ℕ
hung_of c = cond (eqb c.rows 1) 0 (wide_of c)

abbrev pub rows_of : Cell → ℕ
rows_of c = cond (eqb c.rows 0) (suc max_entries) c.rows

abbrev pub wide : List Cell → ℕ
wide cs = sum (map wide_of cs)

abbrev pub hung : List Cell → ℕ
hung cs = sum (map hung_of cs)

abbrev pub rows_asked : List Cell → ℕ
rows_asked cs = sum (map rows_of cs)

-- each row ends within position 4,096, where h hang into the first
abbrev pub RowsBound : ℕ → List Row → Type 0
RowsBound h [] = Unit {0}
RowsBound h (r ∷ rs) = (h + wide r.cells ≤ max_position) × RowsBound (h + hung r.cells) rs

abbrev pub BodiesBound : List (List Row) → Type 0
BodiesBound [] = Unit {0}
BodiesBound (b ∷ bs) = RowsBound 0 b × BodiesBound bs

abbrev pub bodies_asked : List (List Row) → ℕ
bodies_asked [] = 0
bodies_asked (b ∷ bs) = rows_asked (all_cells b) + bodies_asked bs

-- a cell fits into its row, which ends at `end` before it, and into its table, which has so many entries before it and may have `most`
pub record Room (cols rows end entries most : ℕ) : Type 0 where
  pub some_cols : 1 ≤ cols
  pub some_rows : 1 ≤ rows
  pub within : end + cols ≤ max_position
  pub few : entries + rows ≤ most

-- how wide a cell hangs into the rows after its own
pub record HungByPost (cols rows r : ℕ) : Type 0 where
  pub is : r ≡ cond (eqb rows 1) 0 cols
  pub small : r ≤ cols
