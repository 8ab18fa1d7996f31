-- What resolving leaves of bodies: as many cells, and of plain ones everything; and a table has an entry at least for each cell.
use mathlib.Core.Path.{◌≡◌, refl, sym, ap, ap₂, ◌∙◌}
use mathlib.Core.Bool.{cond}
use mathlib.Core.List.{List, [], ◌∷◌, ◌++◌, map}
use Prim.{tt}
use Prim.Native.Nat.{ℕ, suc, ◌+◌, ◌-◌, ◌≤◌, min}
use native.Mathlib.Omega.{arith}
use lib.Dec.{eqb}
use lib.ListN.{length, length-append, length-map}
use Rattle.common.specs.Lists.{All}
use Rattle.resolved_rows.specs.Cells.{Cell, Row, cell, row, row_sum, widest, resolve_cell, resolve_row, fill_body, taken, cut_cell, cut_row, cut_body, resolve_body, resolved}
use Rattle.resolved_rows.specs.inner.Listed.{all_cells}
use Rattle.resolved_rows.proofs.Rows.{cells_append, cells_body}
use Rattle.grid_row.specs.Row.{Item, item_of, row_from, nexts}
use Rattle.grid_row.proofs.Merging.{row_length}
use Rattle.grid_positions.specs.Positions.{originals, all_rows, entry_count}
use Rattle.grid_plain.specs.inner.Plain.{Plain, PlainRow, PlainTable}

-- the rows of all bodies, as they are written
abbrev pub joined : List (List Row) → List Row
joined [] = []
joined (b ∷ bs) = b ++ joined bs

-- ---- as many cells

pub cells_joined : (bs : List (List Row)) → length (all_cells (resolved bs)) ≡ length (all_cells (joined bs))
unfolding resolved
cells_joined [] = refl
cells_joined (b ∷ bs) =
    omega (
      arith,
      cells_joined bs,
      cells_body b,
      ap length (cells_append (resolve_body b) (resolved bs)),
      length-append (all_cells (resolve_body b)) (all_cells (resolved bs)),
      ap length (cells_append b (joined bs)),
      length-append (all_cells b) (all_cells (joined bs)),
    )

entry_each : (hs : List Item) (rs : List Row) → length (all_cells rs) ≤ entry_count (originals hs rs)
unfolding all_cells originals entry_count
entry_each hs [] = omega arith
entry_each hs (r ∷ rs) =
    omega (
      arith,
      entry_each (nexts (row_from 0 hs (map item_of r.cells))) rs,
      row_length 0 hs (map item_of r.cells),
      length-map r.cells item_of,
      length-append r.cells (all_cells rs),
    )

pub cells_few : (rs : List Row) → length (all_cells rs) ≤ entry_count (all_rows rs)
cells_few rs = entry_each [] rs

-- ---- plain rows stay as they are

all_first : {A : Type 0} (P : A → Type 0) (xs ys : List A) → All P (xs ++ ys) → All P xs
unfolding All
all_first P [] ys h = tt
all_first P (x ∷ xs) ys h = (h.0, all_first P xs ys h.1)

all_second : {A : Type 0} (P : A → Type 0) (xs ys : List A) → All P (xs ++ ys) → All P ys
unfolding All
all_second P [] ys h = h
all_second P (x ∷ xs) ys h = all_second P xs ys h.1

filled_cell : (x : ℕ) (c : Cell) → Plain c → resolve_cell x c ≡ c
filled_cell x c h = ap (λ (n : ℕ). cell c.line n c.rows) (ap (λ (n : ℕ). cond (eqb n 0) x n) h.0 ∙ sym h.0)

filled_cells : (x : ℕ) (cs : List Cell) → All Plain cs → map (resolve_cell x) cs ≡ cs
unfolding All
filled_cells x [] h = refl
filled_cells x (c ∷ cs) h = ap₂ (λ (d : Cell) (l : List Cell). d ∷ l) (filled_cell x c h.0) (filled_cells x cs h.1)

filled_rows : (m : ℕ) (rs : List Row) → PlainTable rs → map (resolve_row m) rs ≡ rs
unfolding All resolve_row
filled_rows m [] h = refl
filled_rows m (r ∷ rs) h =
    ap₂ (λ (cs : List Cell) (l : List Row). row r.line cs ∷ l) (filled_cells (m - row_sum r.cells + 1) r.cells h.0) (filled_rows m rs h.1)

cut_one : (left n : ℕ) → n ≡ 1 → taken left n ≡ n
cut_one left n h =
    let e : suc (min 0 left) ≡ 1 = omega arith in
    ap (taken left) h ∙ e ∙ sym h

cut_cells : (left : ℕ) (cs : List Cell) → All Plain cs → map (cut_cell left) cs ≡ cs
unfolding All
cut_cells left [] h = refl
cut_cells left (c ∷ cs) h =
    ap₂ (λ (n : ℕ) (l : List Cell). cell c.line c.cols n ∷ l) (cut_one left c.rows h.0.1) (cut_cells left cs h.1)

cut_rows : (rs : List Row) → PlainTable rs → cut_body rs ≡ rs
unfolding All cut_body cut_row
cut_rows [] h = refl
cut_rows (r ∷ rs) h = ap₂ (λ (cs : List Cell) (l : List Row). row r.line cs ∷ l) (cut_cells (length rs) r.cells h.0) (cut_rows rs h.1)

body_plain : (b : List Row) → PlainTable b → resolve_body b ≡ b
unfolding resolve_body fill_body
body_plain b h = ap cut_body (filled_rows (widest b) b h) ∙ cut_rows b h

pub resolved_plain : (bs : List (List Row)) → PlainTable (joined bs) → resolved bs ≡ joined bs
unfolding resolved
resolved_plain [] h = refl
resolved_plain (b ∷ bs) h =
    ap₂ (λ (x y : List Row). x ++ y) (body_plain b (all_first PlainRow b (joined bs) h)) (resolved_plain bs (all_second PlainRow b (joined bs) h))
