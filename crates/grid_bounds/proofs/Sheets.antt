-- Within the bound on a sheet every table is sound and has few entries: its cells are some of the sheet's. By induction on the lines.
use mathlib.Core.Path.{◌≡◌, refl, sym, ap, subst, ◌∙◌}
use mathlib.Core.Bool.{Bool, true, false, cond}
use mathlib.Core.List.{List, [], ◌∷◌, ◌++◌, map, map-append}
use Prim.{tt}
use Prim.Native.Nat.{ℕ, zero, suc, ◌+◌, ◌-◌, ◌≤◌, ◌<◌}
use native.Mathlib.Decide.{ℕ_discrete}
use native.Mathlib.Numerals.{add-one}
use native.Mathlib.Omega.{arith}
use lib.Dec.{leb, eqb}
use lib.ListN.{length, get_or, drop, drop_of_length-le}
use lib.Seq.{drop-cons}
use borrow.Author.Tests.{eq-eqb, eqb-true, leb-false}
use Rattle.common.specs.Lists.{sum}
use Rattle.common.specs.Limits.{max_position, max_entries}
use Rattle.common.proofs.Sum.{sum_append}
use Rattle.kinds.specs.Kinds.{kind_number, table_kind, cell_kind}
use Rattle.records.specs.NodeRecord.{no_node}
use Rattle.records.specs.declared.NodeRecord.{NodeRecord}
use Rattle.resolved_rows.specs.Cells.{Cell, Row, Frame, cell, frame}
use Rattle.resolved_rows.specs.Listed.{table_rows}
use Rattle.resolved_rows.specs.inner.Listed.{all_cells}
use Rattle.grid_positions.specs.Positions.{all_rows, entry_count}
use Rattle.grid.specs.Facts.{CellOf}
use Rattle.grid.specs.Facts.{Sound}
use Rattle.grid_bounds.specs.inner.Bound.{wide_of, rows_of, wide, hung, RowsBound, BodiesBound, bodies_asked}
use Rattle.grid_bounds.proofs.Bounds.{bodies_few, bound_fits}
use Rattle.grid_bounds.specs.inner.Sheets.{SheetBound, Suffice, Nests, AllSound}
use Rattle.grid_bounds.proofs.CellKinds.{cell_kind_lem}

-- ---- the cells of a table, by a figure of each, are no more than the lines'

-- a property of the lines that are cells of a table of depth d, of the lines that follow it: those three deeper, up to the first that is no deeper
abbrev AtCells : (NodeRecord → Type 0) → ℕ → List NodeRecord → Type 0
AtCells P d [] = Unit {0}
AtCells P d (l ∷ ls) = d < l.depth → (l.depth ≡ d + 3 → P l) × AtCells P d ls

module _ (m : Cell → ℕ) where
  abbrev total : List Cell → ℕ
  total cs = sum (map m cs)

  abbrev totals : List (List Row) → ℕ
  totals [] = 0
  totals (b ∷ bs) = total (all_cells b) + totals bs

  abbrev frame_total : Frame → ℕ
  frame_total f = total f.cells + total (all_cells f.rows) + totals f.bodies

  total_append : (cs ds : List Cell) → total (cs ++ ds) ≡ total cs + total ds
  total_append cs ds = ap sum (map-append m cs ds) ∙ sum_append (map m cs) (map m ds)

  by_cases : (b : Bool) (f g : Frame) (n : ℕ) → (b ≡ true → frame_total f ≤ n) → (b ≡ false → frame_total g ≤ n) → frame_total (cond b f g) ≤ n
  by_cases true f g n p q = p refl
  by_cases false f g n p q = q refl

  module _ (weight : NodeRecord → ℕ) (d : ℕ) where
    frame_total_lem : (k : ℕ) (ls : List NodeRecord) → AtCells (λ l. (k : ℕ) → m (cell k l.cols l.rows) ≤ weight l) d ls → frame_total (frame d k ls) ≤ sum (map weight ls)
    unfolding frame all_cells sum
    frame_total_lem k [] a = omega arith
    frame_total_lem k (l ∷ ls) a =
        let f = frame d (suc k) ls in
        let n = sum (map weight (l ∷ ls)) in
        by_cases (leb l.depth d) _ _ n (λ _. omega arith) λ h.
        let here = a (leb-false l.depth d h) in
        let r = frame_total_lem (suc k) ls here.1 in
        by_cases (eqb l.depth (d + 1)) _ _ n (λ _. omega (arith, r)) λ _.
        by_cases (eqb l.depth (d + 2)) _ _ n (λ _. omega (arith, r, total_append f.cells (all_cells f.rows))) λ _.
        by_cases (eqb l.depth (d + 3)) _ _ n (λ e. omega (arith, r, here.0 (eqb-true l.depth (d + 3) e) k)) (λ _. omega (arith, r))

-- ---- so few cols are within the bound

hung_wide : (cs : List Cell) → hung cs ≤ wide cs
unfolding sum
hung_wide [] = omega arith
hung_wide (c ∷ cs) = omega (arith, one (eqb c.rows 1), hung_wide cs)
  where
    one : (b : Bool) → cond b 0 (wide_of c) ≤ wide_of c
    one true = omega arith
    one false = omega arith

rows_bound : (h : ℕ) (rs : List Row) → h + wide (all_cells rs) ≤ max_position → RowsBound h rs
unfolding all_cells
rows_bound h [] u = tt
rows_bound h (r ∷ rs) u =
    let a = total_append wide_of r.cells (all_cells rs) in
    (omega arith, rows_bound (h + hung r.cells) rs (omega (arith, hung_wide r.cells)))

bodies_bound : (bs : List (List Row)) → totals wide_of bs ≤ max_position → BodiesBound bs
bodies_bound [] u = tt
bodies_bound (b ∷ bs) u = (rows_bound 0 b (omega arith), bodies_bound bs (omega arith))

bodies_asked_lem : (bs : List (List Row)) → bodies_asked bs ≡ totals rows_of bs
bodies_asked_lem [] = refl
bodies_asked_lem (b ∷ bs) = omega (arith, bodies_asked_lem bs)

-- ---- the lines of a table

rests : (ks : List NodeRecord) (i : ℕ) → i < length ks → drop i ks ≡ get_or ks i no_node ∷ drop (i + 1) ks
rests ks i h = rw (add-one, drop-cons ks i no_node)

-- what holds of a table's cells holds of the lines that are its cells
module _ (ks : List NodeRecord) (t : ℕ) (P : NodeRecord → Type 0) (f : (i : ℕ) → CellOf ks t i → P (get_or ks i no_node)) where
  abbrev depth_of : ℕ → ℕ
  depth_of k = (get_or ks k no_node).depth

  from_cells : (n i : ℕ) → i + n ≡ length ks → t < i → ((k : ℕ) → t < k → k < i → depth_of t < depth_of k) → AtCells P (depth_of t) (drop i ks)
  from_cells zero i e h b = subst (AtCells P (depth_of t)) (sym (drop_of_length-le ks {i = i} (omega arith))) tt
  from_cells (suc n) i e h b =
      subst (AtCells P (depth_of t)) (sym (rests ks i (omega arith)))
      (λ d. ((λ q. f i (record { before = h; within = omega arith; deeper = q; between = b })), from_cells n (i + 1) (omega arith) (omega arith) (λ k u v. more d k u (ℕ_discrete k i) v)))
    where
      more : depth_of t < depth_of i → (k : ℕ) → t < k → Dec (k ≡ i) → k < i + 1 → depth_of t < depth_of k
      more d k u (yes q) v = omega (arith, ap depth_of q)
      more d k u (no q) v = b k u (omega arith)

sum_rest : (weight : NodeRecord → ℕ) (n : ℕ) (ls : List NodeRecord) → sum (map weight (drop n ls)) ≤ sum (map weight ls)
unfolding sum
sum_rest weight zero ls = omega arith
sum_rest weight (suc n) [] = omega arith
sum_rest weight (suc n) (l ∷ ls) = omega (arith, sum_rest weight n ls)

abbrev by_kind : (Cell → ℕ) → NodeRecord → ℕ
by_kind m l = cond (eqb (kind_number l.kind) cell_kind) (m (cell 0 l.cols l.rows)) 0

cell_weighs : (m : Cell → ℕ) (l : NodeRecord) → kind_number l.kind ≡ cell_kind → m (cell 0 l.cols l.rows) ≤ by_kind m l
cell_weighs m l e = rw (eq-eqb (kind_number l.kind) cell_kind e) (omega arith)

module _ {ks : List NodeRecord} (step : (k : ℕ) → k + 1 < length ks → (get_or ks (k + 1) no_node).depth ≤ (get_or ks k no_node).depth + 1) (nests : Nests ks) (t : ℕ) (h : t < length ks) (e : kind_number (get_or ks t no_node).kind ≡ table_kind) where
  table_total : (m : Cell → ℕ) → ((k : ℕ) (c : Cell) → m (cell k c.cols c.rows) ≡ m (cell 0 c.cols c.rows))
      → totals m (frame (get_or ks t no_node).depth (suc (t + 1)) (drop (t + 1) ks)).bodies ≤ sum (map (by_kind m) ks)
  table_total m any =
      let a = from_cells ks t (λ l. (k : ℕ) → m (cell k l.cols l.rows) ≤ by_kind m l)
      (λ i c k. let l = get_or ks i no_node in omega (arith, any k (cell 0 l.cols l.rows), cell_weighs m l (cell_kind_lem ks step nests t i c e)))
      (length ks - (t + 1)) (t + 1) (omega arith) (omega arith) (λ k u v. absurd (omega arith)) in
      omega (arith, frame_total_lem m (by_kind m) (get_or ks t no_node).depth (suc (t + 1)) (drop (t + 1) ks) a, sum_rest (by_kind m) (t + 1) ks)

  table_sound : SheetBound max_entries ks → Sound (table_rows ks t)
  unfolding table_rows
  table_sound z =
      let bs = (frame (get_or ks t no_node).depth (suc (t + 1)) (drop (t + 1) ks)).bodies in
      bound_fits bs (bodies_bound bs (omega (arith, table_total wide_of (λ k c. refl), z.cols)))
      (omega (arith, bodies_asked_lem bs, table_total rows_of (λ k c. refl), z.rows))

-- no table has more entries than the bound
pub sheet_entries : {ks : List NodeRecord} {most : ℕ} → ((k : ℕ) → k + 1 < length ks → (get_or ks (k + 1) no_node).depth ≤ (get_or ks k no_node).depth + 1) → Nests ks → most ≤ max_entries → SheetBound most ks
    → (t : ℕ) → t < length ks → kind_number (get_or ks t no_node).kind ≡ table_kind → entry_count (all_rows (table_rows ks t)) ≤ most
unfolding table_rows
sheet_entries {ks} step nests m z t h e =
    let bs = (frame (get_or ks t no_node).depth (suc (t + 1)) (drop (t + 1) ks)).bodies in
    let q = bodies_asked_lem bs in
    let r = table_total step nests t h e rows_of (λ k c. refl) in
    omega (arith, bodies_few bs (bodies_bound bs (omega (arith, table_total step nests t h e wide_of (λ k c. refl), z.cols))) (omega (arith, z.rows)), z.rows)

-- no table is refused
pub sheet_sound : {ks : List NodeRecord} → ((k : ℕ) → k + 1 < length ks → (get_or ks (k + 1) no_node).depth ≤ (get_or ks k no_node).depth + 1) → Nests ks → SheetBound max_entries ks → AllSound ks
sheet_sound step nests z = record { at = λ t h e. table_sound step nests t h e z }

-- where so many records suffice, no table has more entries
pub suffice_entries : {ks : List NodeRecord} {entries rows : ℕ} → ((k : ℕ) → k + 1 < length ks → (get_or ks (k + 1) no_node).depth ≤ (get_or ks k no_node).depth + 1) → Nests ks → Suffice entries rows ks
    → (t : ℕ) → t < length ks → kind_number (get_or ks t no_node).kind ≡ table_kind → entry_count (all_rows (table_rows ks t)) ≤ entries
suffice_entries step nests z t h e = omega (arith, sheet_entries step nests z.small z.bound t h e, z.within)
