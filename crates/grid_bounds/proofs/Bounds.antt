-- The bound holds: where it says that the rows of each body end within 4,096 and that few rows are asked for, neither 5 nor 6 applies. By induction on the
-- rows, with what hangs no wider than what was ever hung.
use mathlib.Core.Path.{◌≡◌, refl, ap, ap₂, ◌∙◌}
use mathlib.Core.Bool.{Bool, false, cond, ◌||◌}
use mathlib.Core.List.{List, [], ◌∷◌, ◌++◌, map, map-map, map-append}
use Prim.Native.Nat.{ℕ, suc, ◌+◌, ◌-◌, ◌≤◌}
use native.Mathlib.Decide.{ℕ_discrete}
use native.Mathlib.Omega.{arith}
use lib.Dec.{eqb}
use lib.ListN.{length}
use borrow.Author.Tests.{eq-eqb, ne_eqb, le-ltb}
use Rattle.common.specs.Lists.{sum}
use Rattle.common.specs.Limits.{max_position, max_entries}
use Rattle.common.proofs.Sum.{sum_append}
use Rattle.resolved_rows.specs.Cells.{Cell, cell, row, widest, resolve_cell, resolve_row, fill_body, taken, cut_cell, cut_row, cut_body, resolve_body, resolved}
use Rattle.resolved_rows.specs.Cells as cells
use Rattle.resolved_rows.specs.inner.Listed.{cell_cols, all_cells}
use Rattle.grid_row.specs.Row.{Item, items_end, item_of, nexts}
use Rattle.grid_positions.specs.Positions.{originals, all_rows, ends_past, entry_count}
use Rattle.grid_positions.proofs.TableFacts.{entries}
use Rattle.grid.specs.Facts.{Sound}
use Rattle.grid_bounds.specs.inner.Bound.{wide_of, hung_of, rows_of, wide, hung, rows_asked, RowsBound, BodiesBound, bodies_asked}
use Rattle.grid_bounds.proofs.Ends.{wide_at, wides, at_same, entries_end, entries_wides, nexts_end}
use Rattle.grid_bounds.proofs.Entries.{taken_of, takens, takens_append, body_entries}
use Rattle.grid_bounds.proofs.Tables.{past_bodies, count_bodies, past_none, count_none}

-- ---- no cols 0

figure : (x n w : ℕ) → cond (eqb n 0) (suc max_position) n + w ≤ max_position → cond (eqb n 0) x n ≡ n
figure x n w h = go (ℕ_discrete n 0)
  where
    go : Dec (n ≡ 0) → cond (eqb n 0) x n ≡ n
    go (yes e) = absurd (let g = rw (eq-eqb n 0 e) at h in omega arith)
    go (no o) = rw (ne_eqb n 0 o)

fill_cells : (x : ℕ) (cs : List Cell) → wide cs ≤ max_position → map (resolve_cell x) cs ≡ cs
unfolding sum
fill_cells x [] h = refl
fill_cells x (c ∷ cs) h =
    ap₂ (λ (n : ℕ) (l : List Cell). cell c.line n c.rows ∷ l) (figure x c.cols (wide cs) h) (fill_cells x cs (omega arith))

fill_rows : (m h : ℕ) (rs : List cells.Row) → RowsBound h rs → map (resolve_row m) rs ≡ rs
unfolding resolve_row
fill_rows m h [] b = refl
fill_rows m h (r ∷ rs) b =
    ap₂ (λ (x : List Cell) (y : List cells.Row). row r.line x ∷ y) (fill_cells (m - cells.row_sum r.cells + 1) r.cells (omega (arith, b.0))) (fill_rows m (h + hung r.cells) rs b.1)

-- ---- cells cut

cut_cols : (left : ℕ) (cs : List Cell) → sum (map cell_cols (map (cut_cell left) cs)) ≡ sum (map cell_cols cs)
cut_cols left cs = ap sum (map-map cell_cols (cut_cell left) cs)

cols_wide : (c : Cell) → c.cols ≤ wide_of c
cols_wide c = go (ℕ_discrete c.cols 0)
  where
    go : Dec (c.cols ≡ 0) → c.cols ≤ wide_of c
    go (yes e) = omega (arith, e)
    go (no o) = rw (ne_eqb c.cols 0 o) (omega arith)

all_wide : (cs : List Cell) → sum (map cell_cols cs) ≤ wide cs
unfolding sum
all_wide [] = omega arith
all_wide (c ∷ cs) = omega (arith, cols_wide c, all_wide cs)

-- a cell that does not hang ends with its row
cell_hung : (left : ℕ) (c : Cell) → c.cols ≤ hung_of c + wide_at 0 (item_of (cut_cell left c))
cell_hung left c = go (ℕ_discrete c.rows 1)
  where
    one : c.rows ≡ 1 → taken left c.rows ≡ 1
    one e = rw (ne_eqb c.rows 0 (λ z. omega (arith, e, z))) (omega (arith, e))

    go : Dec (c.rows ≡ 1) → c.cols ≤ hung_of c + wide_at 0 (item_of (cut_cell left c))
    go (yes e) = omega (arith, at_same 0 (item_of (cut_cell left c)) (omega (arith, one e)))
    go (no o) =
        let p = cols_wide c in
        let q : hung_of c ≡ wide_of c = rw (ne_eqb c.rows 1 o) in
        omega (arith, p, q)

cells_hung : (left : ℕ) (cs : List Cell) → sum (map cell_cols cs) ≤ hung cs + wides 0 (map item_of (map (cut_cell left) cs))
unfolding sum
cells_hung left [] = omega arith
cells_hung left (c ∷ cs) = omega (arith, cell_hung left c, cells_hung left cs)

-- ---- where the rows end

or_false : (a b : Bool) → a ≡ false → b ≡ false → (a || b) ≡ false
or_false a b p q = ap₂ (λ (x y : Bool). x || y) p q

rows_within : (h : ℕ) (hs : List Item) (rs : List cells.Row) → items_end hs ≤ h → RowsBound h rs → ends_past (originals hs (cut_body rs)) ≡ false
unfolding cut_body cut_row originals ends_past
rows_within h hs [] u b = refl
rows_within h hs (r ∷ rs) u b =
    let cs = map (cut_cell (length rs)) r.cells in
    let x = entries hs (row r.line cs) in
    let e = entries_end hs (row r.line cs) in
    let c = cut_cols (length rs) r.cells in
    or_false _ _ (le-ltb max_position (items_end x) (omega (arith, all_wide r.cells, b.0)))
    (rows_within (h + hung r.cells) (nexts x) rs
    (omega (arith, nexts_end x, entries_wides 0 hs (row r.line cs), cells_hung (length rs) r.cells)) b.1)

-- ---- how many entries

cell_takes : (left : ℕ) (c : Cell) → rows_of c ≤ max_entries → taken_of (cut_cell left c) ≤ rows_of c
cell_takes left c h = go (ℕ_discrete c.rows 0)
  where
    go : Dec (c.rows ≡ 0) → taken_of (cut_cell left c) ≤ rows_of c
    go (yes e) = absurd (let g = rw (eq-eqb c.rows 0 e) at h in omega arith)
    go (no o) = rw (ne_eqb c.rows 0 o) (omega arith)

cells_take : (left : ℕ) (cs : List Cell) → rows_asked cs ≤ max_entries → takens (map (cut_cell left) cs) ≤ rows_asked cs
unfolding sum
cells_take left [] h = omega arith
cells_take left (c ∷ cs) h = omega (arith, cell_takes left c (omega arith), cells_take left cs (omega arith))

pub asked_append : (cs ds : List Cell) → rows_asked (cs ++ ds) ≡ rows_asked cs + rows_asked ds
asked_append cs ds = ap sum (map-append rows_of cs ds) ∙ sum_append (map rows_of cs) (map rows_of ds)

rows_take : (rs : List cells.Row) → rows_asked (all_cells rs) ≤ max_entries → takens (all_cells (cut_body rs)) ≤ rows_asked (all_cells rs)
unfolding cut_body cut_row all_cells sum
rows_take [] h = omega arith
rows_take (r ∷ rs) h =
    let a = asked_append r.cells (all_cells rs) in
    omega (
      arith,
      takens_append (map (cut_cell (length rs)) r.cells) (all_cells (cut_body rs)),
      cells_take (length rs) r.cells (omega arith),
      rows_take rs (omega arith),
    )

-- ---- a body and a table

module _ (b : List cells.Row) (z : RowsBound 0 b) where
  body_same : resolve_body b ≡ cut_body b
  unfolding resolve_body fill_body
  body_same = ap cut_body (fill_rows (widest b) 0 b z)

  body_within : ends_past (all_rows (resolve_body b)) ≡ false
  unfolding sum
  body_within = ap (λ (l : List cells.Row). ends_past (all_rows l)) body_same ∙ rows_within 0 [] b (omega arith) z

  body_few : rows_asked (all_cells b) ≤ max_entries → entry_count (all_rows (resolve_body b)) ≤ rows_asked (all_cells b)
  body_few h = omega (arith, body_entries b, ap (λ (l : List cells.Row). takens (all_cells l)) body_same, rows_take b h)

bodies_within : (bs : List (List cells.Row)) → BodiesBound bs → ends_past (all_rows (resolved bs)) ≡ false
bodies_within [] z = past_none
bodies_within (b ∷ bs) z = past_bodies b bs ∙ or_false _ _ (body_within b z.0) (bodies_within bs z.1)

pub bodies_few : (bs : List (List cells.Row)) → BodiesBound bs → bodies_asked bs ≤ max_entries → entry_count (all_rows (resolved bs)) ≤ bodies_asked bs
bodies_few [] z h = omega (arith, count_none)
bodies_few (b ∷ bs) z h = omega (arith, count_bodies b bs, body_few b z.0 (omega arith), bodies_few bs z.1 (omega arith))

-- within the bound neither 5 nor 6 applies
pub bound_fits : (bs : List (List cells.Row)) → BodiesBound bs → bodies_asked bs ≤ max_entries → Sound (resolved bs)
bound_fits bs z h = record { within = bodies_within bs z; few = omega (arith, bodies_few bs z h) }
