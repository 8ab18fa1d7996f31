-- The law of plain tables: where every cell takes one column and one row, the grid by the column edges is the one by the places of the cells in their
-- rows, and has as many columns as the longest row has cells. Nothing hangs into a row, so cell k stands at position k; the edges are the positions up
-- to the longest row's end, so the number of each is the position itself.
use mathlib.Core.Path.{◌≡◌, refl, ap, ap₂, ◌∙◌}
use mathlib.Core.Bool.{Bool, true, false, cond, ◌||◌}
use mathlib.Core.List.{List, [], ◌∷◌, map}
use Prim.Native.Nat.{ℕ, zero, suc, ◌+◌, ◌-◌, ◌≤◌, ◌<◌, max}
use native.Mathlib.Decide.{dec_lt, ℕ_discrete}
use native.Mathlib.Omega.{arith}
use lib.Dec.{eqb}
use lib.ListN.{length}
use borrow.Author.Tests.{eq-eqb}
use Rattle.common.proofs.Tests.{or_right}
use Rattle.common.specs.Lists.{sum, mem, All}
use Rattle.resolved_rows.specs.Cells.{Cell, Row}
use Rattle.grid_row.specs.Row.{Item, item, item_span, item_of, items_end, row_from, hang_of, nexts}
use Rattle.grid_row.proofs.Steps.{row_free}
use Rattle.grid_positions.specs.Positions.{originals, all_rows}
use Rattle.grid_positions.specs.Positions as positions
use Rattle.column_edges.specs.Edges.{count_below, ends_from}
use Rattle.column_edges.proofs.Columns.{mem_append}
use Rattle.grid.specs.Grid.{Entry, entry, GridRow, grid_row, grid_of, columns_of, ends_of, spans_of, is_column_edge, number, entries_from, longest}
use Rattle.grid_plain.specs.inner.Plain.{Plain, PlainTable, plain_entries, plain_row, plain_grid, most_cells, IsPlainGrid}

-- ---- the rows by positions: nothing hangs, and the cells stand one after the other

abbrev item_at : ℕ → Cell → Item
item_at p c = item c.line false 1 p 1

abbrev items : ℕ → List Cell → List Item
items p [] = []
items p (c ∷ cs) = item_at p c ∷ items (p + 1) cs

row_items : (p : ℕ) (cs : List Cell) → All Plain cs → row_from p [] (map item_of cs) ≡ items p cs
unfolding All row_from
row_items p [] h = refl
row_items p (c ∷ cs) h =
    row_free p (item_of c) (map item_of cs)
    ∙ ap₂ (λ (w s : ℕ). item c.line false (suc (w - 1)) p s ∷ row_from (p + s) [] (map item_of cs)) h.0.1 h.0.0
    ∙ ap (λ (l : List Item). item_at p c ∷ l) (row_items (p + 1) cs h.1)

none_hang : (p : ℕ) (cs : List Cell) → nexts (items p cs) ≡ []
unfolding nexts hang_of
none_hang p [] = refl
none_hang p (c ∷ cs) = none_hang (p + 1) cs

abbrev placed_row : Row → positions.PositionRow
placed_row r = positions.row r.line (items 0 r.cells)

abbrev placed_rows : List Row → List positions.PositionRow
placed_rows rs = map placed_row rs

rows_placed : (rs : List Row) → PlainTable rs → all_rows rs ≡ placed_rows rs
unfolding All originals
rows_placed [] h = refl
rows_placed (r ∷ rs) h =
    ap (λ (l : List Item). positions.row r.line l ∷ originals (nexts l) rs) (row_items 0 r.cells h.0)
    ∙ ap (λ (l : List Item). placed_row r ∷ originals l rs) (none_hang 0 r.cells)
    ∙ ap (λ (l : List positions.PositionRow). placed_row r ∷ l) (rows_placed rs h.1)

-- ---- the edges: every position up to the end of the longest row

row_edge : (q p k : ℕ) (cs : List Cell) → p < q → q ≤ p + length cs → mem q (ends_from p (map item_span (items k cs))) ≡ true
unfolding mem ends_from
row_edge q p k [] a b = absurd (omega arith)
row_edge q p k (c ∷ cs) a b = go (λ a' b'. row_edge q (p + 1) (k + 1) cs a' b') (ℕ_discrete q (p + 1))
  where
    go : (p + 1 < q → q ≤ p + 1 + length cs → mem q (ends_from (p + 1) (map item_span (items (k + 1) cs))) ≡ true) → Dec (q ≡ p + 1)
        → (eqb q (p + 1) || mem q (ends_from (p + 1) (map item_span (items (k + 1) cs)))) ≡ true
    go h (yes e) = ap (λ (x : Bool). x || mem q (ends_from (p + 1) (map item_span (items (k + 1) cs)))) (eq-eqb q (p + 1) e)
    go h (no e) = or_right (eqb q (p + 1)) (mem q (ends_from (p + 1) (map item_span (items (k + 1) cs)))) (h (omega arith) (omega arith))

rows_edge : (q : ℕ) (rs : List Row) → 0 < q → q ≤ most_cells rs → mem q (ends_of (placed_rows rs)) ≡ true
unfolding most_cells ends_of
rows_edge q [] a b = absurd (omega arith)
rows_edge q (r ∷ rs) a b =
    mem_append q (ends_from 0 (spans_of (placed_row r))) (ends_of (placed_rows rs))
    ∙ go (λ b'. rows_edge q rs a b') (dec_lt (length r.cells) q)
  where
    go : (q ≤ most_cells rs → mem q (ends_of (placed_rows rs)) ≡ true) → Dec (length r.cells < q)
        → (mem q (ends_from 0 (spans_of (placed_row r))) || mem q (ends_of (placed_rows rs))) ≡ true
    go h (yes g) = or_right (mem q (ends_from 0 (spans_of (placed_row r)))) (mem q (ends_of (placed_rows rs))) (h (omega arith))
    go h (no g) = ap (λ (x : Bool). x || mem q (ends_of (placed_rows rs))) (row_edge q 0 0 r.cells a (omega arith))

all_edges : (q : ℕ) (rs : List Row) → q ≤ most_cells rs → is_column_edge (placed_rows rs) q ≡ true
unfolding mem
all_edges zero rs h = ap (λ (x : Bool). x || mem 0 (ends_of (placed_rows rs))) (eq-eqb 0 0 refl)
all_edges (suc q) rs h = or_right (eqb (suc q) 0) (mem (suc q) (ends_of (placed_rows rs))) (rows_edge (suc q) rs (omega arith) h)

abbrev one : Bool → ℕ
one b = cond b 1 0

count_all : (f : ℕ → Bool) (p : ℕ) → ((q : ℕ) → q < p → f q ≡ true) → count_below f p ≡ p
unfolding count_below
count_all f zero h = refl
count_all f (suc p) h = omega (arith, count_all f p (λ q l. h q (omega arith)), ap one (h p (omega arith)))

numbers : (rs : List Row) (p : ℕ) → p ≤ most_cells rs → number (placed_rows rs) p ≡ p
numbers rs p h = count_all (is_column_edge (placed_rows rs)) p (λ q l. all_edges q rs (omega arith))

-- ---- the grid

entries_plain : (rs : List Row) (p : ℕ) (cs : List Cell) → p + length cs ≤ most_cells rs → entries_from (placed_rows rs) p (items p cs) ≡ plain_entries p cs
unfolding entries_from plain_entries
entries_plain rs p [] h = refl
entries_plain rs p (c ∷ cs) h =
    let rest = entries_from (placed_rows rs) (p + 1) (items (p + 1) cs) in
    ap₂ (λ (a b : ℕ). entry c.line false a (b - a) ∷ rest) (numbers rs p (omega arith)) (numbers rs (p + 1) (omega arith))
    ∙ ap (λ (s : ℕ). entry c.line false p s ∷ rest) (omega arith)
    ∙ ap (λ (l : List Entry). entry c.line false p 1 ∷ l) (entries_plain rs (p + 1) cs (omega arith))

abbrev gridded : ℕ → List Entry → GridRow
gridded line es = record { line = line; entries = es }

grid_plain : (rs qs : List Row) → most_cells qs ≤ most_cells rs → map (grid_row (placed_rows rs)) (placed_rows qs) ≡ map plain_row qs
unfolding most_cells
grid_plain rs [] h = refl
grid_plain rs (q ∷ qs) h =
    ap₂ (λ (es : List Entry) (l : List GridRow). gridded q.line es ∷ l)
    (entries_plain rs 0 q.cells (omega arith)) (grid_plain rs qs (omega arith))

items_end_lem : (p : ℕ) (cs : List Cell) → items_end (items p cs) ≡ length cs
unfolding sum
items_end_lem p [] = refl
items_end_lem p (c ∷ cs) = omega (arith, items_end_lem (p + 1) cs)

longest_plain : (rs qs : List Row) → most_cells qs ≤ most_cells rs → longest (placed_rows rs) (placed_rows qs) ≡ most_cells qs
unfolding longest most_cells
longest_plain rs [] h = refl
longest_plain rs (q ∷ qs) h =
    ap₂ max
    (ap (number (placed_rows rs)) (items_end_lem 0 q.cells) ∙ numbers rs (length q.cells) (omega arith))
    (longest_plain rs qs (omega arith))

pub plain_grid_lem : (rs : List Row) → PlainTable rs → IsPlainGrid rs
unfolding grid_of columns_of plain_grid
plain_grid_lem rs h = record {
  grid = ap (λ (l : List positions.PositionRow). map (grid_row l) l) (rows_placed rs h) ∙ grid_plain rs rs (omega arith);
  columns = ap (λ (l : List positions.PositionRow). longest l l) (rows_placed rs h) ∙ longest_plain rs rs (omega arith);
}
