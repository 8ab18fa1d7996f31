-- What holds of two tables side by side, from what holds of each: some row of a table's grid reaches its last column, as the columns are those of the
-- longest row, and every entry has an owner, as a filler keeps the line of a cell.
use mathlib.Core.Path.{◌≡◌, refl, ap, ◌∙◌}
use mathlib.Core.Bool.{Bool, true, false, ◌&&◌}
use mathlib.Core.List.{List, [], ◌∷◌, ◌++◌, map}
use Prim.{tt}
use Prim.Native.Nat.{ℕ, suc, ◌+◌, ◌-◌, ◌≤◌, ◌<◌}
use native.Mathlib.Nat.{zero-add}
use native.Mathlib.Omega.{arith}
use native.Mathlib.Decide.{dec_lt}
use lib.ListN.{length, get_or, length-map, get_or-map}
use borrow.Author.Tests.{ne_eqb}
use Rattle.common.specs.Lists.{All, sum}
use Rattle.common.proofs.All.{all_map}
use Rattle.records.specs.declared.NodeRecord.{NodeRecord}
use Rattle.column_edges.specs.Edges.{count_below}
use Rattle.column_edges.proofs.Counts.{count_mono}
use Rattle.resolved_rows.specs.Cells as cells
use Rattle.resolved_rows.specs.Cells.{Cell}
use Rattle.resolved_rows.specs.Listed.{table_rows}
use Rattle.resolved_rows.specs.inner.Listed.{cell_line, all_cells}
use Rattle.grid_row.specs.Row.{Item, item_of, items_end, row_from, nexts}
use Rattle.grid_row.proofs.Merging.{row_each, nexts_each}
use Rattle.grid_positions.specs.Positions.{PositionRow, row, originals, all_rows}
use Rattle.grid.specs.Grid.{Entry, entry, GridRow, is_column_edge, number, entries_from, grid_row, longest, grid_of, columns_of}
use Rattle.grid.specs.Judging.{Lined}
use Rattle.grid.proofs.CellLines.{lines_after, held_cells, Rises, lines_after_rise}
use Rattle.grid_join.specs.Joined.{end_from}
use Rattle.grid_join.specs.Facts.{Reaches, Owned}
use Rattle.grid_join.proofs.Rows.{joined_count, joined_reaches}
use Rattle.grid_join.proofs.Kept.{left_kept, right_kept}
use Rattle.joined_tables.specs.Side.{Tables, SideBySide}
use Rattle.joined_tables.proofs.Grids.{tiles, both_tile}

-- ---- the last column is reached

abbrev no_position_row : PositionRow
no_position_row = row 0 []

record Longest (rs qs : List PositionRow) : Type 0 where
  at : ℕ
  there : at < length qs
  is : number rs (items_end (get_or qs at no_position_row).items) ≡ longest rs qs

longest_is : (rs qs : List PositionRow) → 0 < longest rs qs → Longest rs qs
unfolding longest
longest_is rs [] h = absurd (omega arith)
longest_is rs (q ∷ qs) h = go (dec_lt (number rs (items_end q.items)) (longest rs qs)) (longest_is rs qs)
  where
    go : Dec (number rs (items_end q.items) < longest rs qs) → (0 < longest rs qs → Longest rs qs) → Longest rs (q ∷ qs)
    go (yes l) f = let z = f (omega arith) in record { at = suc z.at; there = omega (arith, z.there); is = omega (arith, z.is) }
    go (no l) f = record { at = 0; there = omega arith; is = omega arith }

entries_end : (rs : List PositionRow) (p : ℕ) (xs : List Item) → end_from (number rs p) (entries_from rs p xs) ≡ number rs (p + items_end xs)
unfolding end_from entries_from sum
entries_end rs p [] = let e : p ≡ p + 0 = omega arith in ap (number rs) e
entries_end rs p (x ∷ xs) =
    let m = count_mono (is_column_edge rs) p (p + x.span) (omega arith) in
    let e : number rs p + (number rs (p + x.span) - number rs p) ≡ number rs (p + x.span) = omega arith in
    let f : p + x.span + items_end xs ≡ p + (x.span + items_end xs) = omega arith in
    ap (λ (k : ℕ). end_from k (entries_from rs (p + x.span) xs)) e ∙ entries_end rs (p + x.span) xs ∙ ap (number rs) f

pub table_reaches : (table : List cells.Row) → Reaches (columns_of table) (grid_of table)
unfolding grid_of columns_of entries_from count_below
table_reaches table h =
    let rs = all_rows table in
    let z = longest_is rs rs h in
    record {
      row = z.at;
      there = omega (arith, z.there, length-map rs (grid_row rs));
      ends =
          ap (λ (r : GridRow). end_from 0 r.entries) (get_or-map (grid_row rs) rs z.at no_position_row)
          ∙ entries_end rs 0 (get_or rs z.at no_position_row).items
          ∙ ap (number rs) (zero-add (items_end (get_or rs z.at no_position_row).items))
          ∙ z.is;
    }

-- ---- every entry has an owner

abbrev Lines : Item → Type 0
Lines x = 1 ≤ x.owner

abbrev CellLines : List cells.Row → Type 0
CellLines table = All (λ r. All (λ c. 1 ≤ c.line) r.cells) table

originals_lines : (hs : List Item) (table : List cells.Row) → All Lines hs → CellLines table → All (λ r. All Lines r.items) (originals hs table)
unfolding All originals
originals_lines hs [] a f = tt
originals_lines hs (r ∷ rs) a f =
    let w = row_each Lines (λ c q v. v) 0 hs (map item_of r.cells) a (all_map (λ c. 1 ≤ c.line) Lines item_of (λ c v. v) r.cells f.0) in
    (w, originals_lines (nexts (row_from 0 hs (map item_of r.cells))) rs (nexts_each Lines Lines (λ x m v. v) (row_from 0 hs (map item_of r.cells)) w) f.1)

owned : (e : Entry) → 1 ≤ e.owner → Owned e
owned e h = rw (ne_eqb e.owner 0 (λ q. omega (arith, q))) (never e.filler)
  where
    never : (b : Bool) → (b && false) ≡ false
    never true = refl
    never false = refl

entries_owned : (rs : List PositionRow) (p : ℕ) (xs : List Item) → All Lines xs → All Owned (entries_from rs p xs)
unfolding All entries_from
entries_owned rs p [] a = tt
entries_owned rs p (x ∷ xs) a = (owned (entry x.owner x.filler (number rs p) (number rs (p + x.span) - number rs p)) a.0, entries_owned rs (p + x.span) xs a.1)

rises_some : (m : ℕ) (ls : List ℕ) → Rises m ls → All (λ k. 1 ≤ k) ls
unfolding All
rises_some m [] a = tt
rises_some m (k ∷ ls) a = (omega (arith, a.0), rises_some k ls a.1)

cells_some : (cs : List Cell) → All (λ k. 1 ≤ k) (map cell_line cs) → All (λ c. 1 ≤ c.line) cs
unfolding All
cells_some [] a = tt
cells_some (c ∷ cs) a = (a.0, cells_some cs a.1)

by_rows : (table : List cells.Row) → All (λ c. 1 ≤ c.line) (all_cells table) → CellLines table
unfolding All all_cells
by_rows [] a = tt
by_rows (r ∷ rs) a = let (b, c) = part r.cells a in (b, by_rows rs c)
  where
    part : (cs : List Cell) → All (λ c. 1 ≤ c.line) (cs ++ all_cells rs) → All (λ c. 1 ≤ c.line) cs × All (λ c. 1 ≤ c.line) (all_cells rs)
    part [] a = (tt, a)
    part (x ∷ cs) a = let (b, c) = part cs a.1 in ((a.0, b), c)

pub table_owned : (ks : List NodeRecord) (at : ℕ) → Lined ks → at < length ks → All (λ r. All Owned r.entries) (grid_of (table_rows ks at))
unfolding grid_of All
table_owned ks at z h =
    let f : All (λ k. 1 ≤ k) (map cell_line (all_cells (table_rows ks at))) = rw (held_cells z at h) (rises_some (at + 1) (lines_after ks at) (lines_after_rise ks at)) in
    let rs = all_rows (table_rows ks at) in
    all_map (λ r. All Lines r.items) (λ r. All Owned r.entries) (grid_row rs) (λ r a. entries_owned rs 0 r.items a) rs
    (originals_lines [] (table_rows ks at) tt (by_rows (table_rows ks at) (cells_some (all_cells (table_rows ks at)) f)))

-- ---- both

pub side_by_side : {ks : List NodeRecord} {l r : ℕ} → Tables ks l r → SideBySide ks l r
side_by_side {ks} {l} {r} t =
    let tl = tiles ks l t.lined t.left_within t.left_sound in
    let tr = tiles ks r t.lined t.right_within t.right_sound in
    let ol = table_owned ks l t.lined t.left_within in
    let or = table_owned ks r t.lined t.right_within in
    let cl = columns_of (table_rows ks l) in
    let cr = columns_of (table_rows ks r) in
    let gl = grid_of (table_rows ks l) in
    let gr = grid_of (table_rows ks r) in
    record {
      tiles = both_tile t;
      reaches = joined_reaches cl cr gl gr tl tr (table_reaches (table_rows ks l)) (table_reaches (table_rows ks r));
      rows = joined_count cl cr gl gr;
      left = left_kept cl cr gl gr tl ol or;
      right = right_kept cl cr gl gr tl ol or;
    }
