-- The grids of two tables of a sheet: their records are those of grids that can be joined, and the joined rows tile the columns of both. Every cell among
-- the joined entries is a line of the sheet, whose estimate stands among the figures.
use mathlib.Core.Path.{◌≡◌, sym, ap, subst, ◌∙◌}
use mathlib.Core.Bool.{true, true≢false}
use mathlib.Core.List.{List, [], ◌∷◌, ◌++◌, map}
use Prim.{tt}
use Prim.Native.Nat.{ℕ, ◌+◌, ◌-◌, ◌≤◌, ◌<◌}
use native.Mathlib.Omega.{arith}
use native.Mathlib.Decide.{dec_lt}
use lib.ListN.{length, get_or, take, length-map, get_or-map}
use borrow.Author.Tests.{lt-ltb, le-ltb}
use Rattle.common.specs.Lists.{All}
use Rattle.common.specs.Limits.{max_lines}
use Rattle.common.proofs.All.{all_append, all_map, all_weaken}
use Rattle.text.specs.declared.Estimate.{Estimate}
use Rattle.records.specs.declared.NodeRecord.{NodeRecord}
use Rattle.records.specs.declared.Entry as records
use Rattle.records.specs.declared.RowEnd.{RowEnd}
use Rattle.resolved_rows.specs.Cells as cells
use Rattle.resolved_rows.specs.Listed.{table_rows}
use Rattle.grid.specs.Grid.{Entry, entry, GridRow, grid_of, columns_of, entries_of}
use Rattle.grid.specs.Facts.{Sound}
use Rattle.grid.specs.Judging.{Lined, shown}
use Rattle.grid.proofs.GridCells.{IsCell, entries_cells}
use Rattle.grid.proofs.GridFacts.{held_spanned, grid_tiles, grid_rows, grid_entries, grid_columns}
use Rattle.grid.proofs.Rebuilt.{held_few}
use Rattle.grid_build.specs.declared.Counts.{Counts}
use Rattle.grid_build.specs.inner.Records.{TableMade}
use Rattle.grid_build.specs.inner.Cut.{RecordsPost}
use Rattle.grid_build.proofs.Cut.{made_records}
use Rattle.grid_build.proofs.RowRecords.{ended_length}
use Rattle.estimates.specs.Estimates.{none, unmeasured, est_of, estimates, measured}
use Rattle.grid_join.specs.Joined.{empty_entries, moved, end_from, filled, joined}
use Rattle.grid_join.specs.Facts.{RowTiles}
use Rattle.grid_join.specs.inner.Joins.{Given, JoinPre}
use Rattle.grid_join.proofs.Tiling.{joined_tiles}
use Rattle.table_layout.specs.Arranging.{AllMeasured}
use Rattle.table_layout.specs.inner.Grids.{Known, RowKnown}
use Rattle.table_layout.proofs.Grids.{all_cells}
use Rattle.joined_tables.specs.Tables.{both_columns, joined_grid}
use Rattle.joined_tables.specs.Side.{Tables}
use Rattle.joined_tables.specs.inner.Joining.{RecordCapacity}

-- ---- one table

module _ (ks : List NodeRecord) (at : ℕ) (z : Lined ks) (h : at < length ks) (s : Sound (table_rows ks at)) where
  abbrev T : List cells.Row
  T = table_rows ks at

  pub tiles : All (RowTiles (columns_of T)) (grid_of T)
  tiles = grid_tiles T s (held_spanned ks at)

  pub few_rows : length (grid_of T) ≤ max_lines
  few_rows = omega (arith, grid_rows T s, held_few ks at, z.short)

  pub given : {counts : Counts} {es : List records.Entry} {rs : List RowEnd} → TableMade T counts es rs
      → {entries : List records.Entry} {rows : List RowEnd} {columns : ℕ} → RecordsPost counts es rs entries rows columns → Given columns (grid_of T) entries rows
  given m p =
      let r = made_records m p in
      record {
        records_are = record { entries_are = r.entries_are; rows_are = r.rows_are };
        tiles = rw (r.columns_are) tiles;
        few_columns = omega (arith, r.columns_are, grid_columns T s);
        few_entries = omega (arith, ap length r.entries_are, length-map (entries_of (grid_of T)) shown, grid_entries T s);
        few_rows = omega (arith, ap length r.rows_are, ended_length (grid_of T), few_rows);
      }

-- ---- what holds of every entry of both, wherever it is moved, and of empty entries holds of the joined ones

module _ (P : Entry → Type 0) (empty : (p q : ℕ) → P (entry 0 true p (q - p))) (c : ℕ) (on : (e : Entry) → P e → P (moved c e)) where
  empty_each : (p q : ℕ) → All P (empty_entries p q)
  unfolding All
  empty_each p q = go (dec_lt p q)
    where
      go : Dec (p < q) → All P (empty_entries p q)
      go (yes l) = rw (lt-ltb p q l) (empty p q, tt)
      go (no l) = rw (le-ltb p q (omega arith)) tt

  filled_each : (es : List Entry) → All P es → All P (filled c es)
  filled_each es a = all_append P es (empty_entries (end_from 0 es) c) a (empty_each (end_from 0 es) c)

  moved_each : (es : List Entry) → All P es → All P (map (moved c) es)
  moved_each es a = all_map P P (moved c) on es a

  pub joined_each : (d : ℕ) (ls rs : List GridRow) → All P (entries_of ls) → All P (entries_of rs) → All (λ r. All P r.entries) (joined c d ls rs)
  unfolding All joined entries_of
  joined_each d ls rs a b = rows ls rs (parts ls a) (parts rs b)
    where
      parts : (g : List GridRow) → All P (entries_of g) → All (λ r. All P r.entries) g
      parts [] a = tt
      parts (r ∷ g) a = let (x, y) = part r.entries a in (x, parts g y)
        where
          part : (es : List Entry) → All P (es ++ entries_of g) → All P es × All P (entries_of g)
          part [] a = (tt, a)
          part (e ∷ es) a = let (x, y) = part es a.1 in ((a.0, x), y)

      rows : (ls rs : List GridRow) → All (λ r. All P r.entries) ls → All (λ r. All P r.entries) rs → All (λ r. All P r.entries) (joined c d ls rs)
      rows [] [] a b = tt
      rows [] (r ∷ rs) a b = (all_append P (empty_entries 0 c) (map (moved c) r.entries) (empty_each 0 c) (moved_each r.entries b.0), rows [] rs a b.1)
      rows (l ∷ ls) [] a b = (all_append P (filled c l.entries) (empty_entries c (c + d)) (filled_each l.entries a.0) (empty_each c (c + d)), rows ls [] a.1 b)
      rows (l ∷ ls) (r ∷ rs) a b =
          (all_append P (filled c l.entries) (map (moved c) r.entries) (filled_each l.entries a.0) (moved_each r.entries b.0), rows ls rs a.1 b.1)

-- ---- both

module _ {ks : List NodeRecord} {l r : ℕ} (t : Tables ks l r) where
  abbrev TL : List cells.Row
  TL = table_rows ks l

  abbrev TR : List cells.Row
  TR = table_rows ks r

  left_few : length (grid_of TL) ≤ max_lines
  left_few = few_rows ks l t.lined t.left_within t.left_sound

  right_few : length (grid_of TR) ≤ max_lines
  right_few = few_rows ks r t.lined t.right_within t.right_sound

  -- the rows tile the columns of both
  pub both_tile : All (RowTiles (both_columns ks l r)) (joined_grid ks l r)
  both_tile =
      joined_tiles (columns_of TL) (columns_of TR) (grid_of TL) (grid_of TR)
      (tiles ks l t.lined t.left_within t.left_sound) (tiles ks r t.lined t.right_within t.right_sound)

  -- the records of both can be joined
  pub join_ready : {a b : Counts} {les res : List records.Entry} {lrs rrs : List RowEnd} → TableMade TL a les lrs → TableMade TR b res rrs
      → {left right : List records.Entry} {left_rows right_rows : List RowEnd} {c d : ℕ} → RecordsPost a les lrs left left_rows c → RecordsPost b res rrs right right_rows d
      → {entries : List records.Entry} {rows : List RowEnd} → RecordCapacity entries rows → JoinPre c d left left_rows right right_rows entries rows
  join_ready m n p q w =
      record {
        ls = grid_of TL;
        rs = grid_of TR;
        left_given = given ks l t.lined t.left_within t.left_sound m p;
        right_given = given ks r t.lined t.right_within t.right_sound n q;
        entry_capacity = λ k. omega (arith, k, w.entry_capacity);
        row_capacity = omega (arith, left_few, right_few, w.row_capacity);
      }

  -- its cells are lines of the sheet, whose estimates stand among the figures
  module _ {figures : List Estimate} (m : AllMeasured ks figures) (wrap : ℕ) (f : take (length ks) figures ≡ estimates wrap ks) where
    abbrev K : Entry → Type 0
    K = Known 0 (measured wrap 1 ks) figures

    fits : (k : ℕ) → k < length ks → (get_or (measured wrap 1 ks) k unmeasured).est.least ≤ (get_or (measured wrap 1 ks) k unmeasured).est.size
    fits k h =
        let q : estimates m.wrap ks ≡ estimates wrap ks = sym m.figures_are ∙ f in
        let g = subst (λ (es : List Estimate). (get_or es k none).least ≤ (get_or es k none).size) q (m.fits k h) in
        subst (λ (e : Estimate). e.least ≤ e.size) (get_or-map est_of (measured wrap 1 ks) k unmeasured) g

    cell_known : (at : ℕ) (e : Entry) → IsCell ks at e → K e
    cell_known at e p = record {
      later = λ h. omega (arith, (p h).0);
      within = λ h. omega (arith, (p h).0, (p h).1.within, m.enough);
      figure = λ h. (all_cells at wrap f).cells (e.owner - 1) (p h).1 ∙ get_or-map est_of (measured wrap 1 ks) (e.owner - 1) unmeasured;
      fits = λ h. fits (e.owner - 1) (p h).1.within;
    }

    empty_known : (p q : ℕ) → K (entry 0 true p (q - p))
    empty_known p q = record { later = λ h. absurd (true≢false h); within = λ h. absurd (true≢false h); figure = λ h. absurd (true≢false h); fits = λ h. absurd (true≢false h) }

    moved_known : (c : ℕ) (e : Entry) → K e → K (moved c e)
    moved_known c e k = record { later = k.later; within = k.within; figure = k.figure; fits = k.fits }

    pub both_known : All (RowKnown 0 (measured wrap 1 ks) figures) (joined_grid ks l r)
    both_known =
        joined_each K empty_known (columns_of TL) (moved_known (columns_of TL)) (columns_of TR) (grid_of TL) (grid_of TR)
        (all_weaken (IsCell ks l) K (cell_known l) (entries_of (grid_of TL)) (entries_cells t.lined l t.left_within))
        (all_weaken (IsCell ks r) K (cell_known r) (entries_of (grid_of TR)) (entries_cells t.lined r t.right_within))
