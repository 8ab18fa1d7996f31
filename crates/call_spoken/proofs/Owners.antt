-- What holds of the lines of a table's cells holds of the owner of each entry of its grid: so each filler's owner is a line of the sheet. By induction on
-- the rows, on the entries of a row and on what hangs.
use mathlib.Core.Path.{◌≡◌, refl, ap, subst, ◌∙◌}
use mathlib.Core.Bool.{Bool, true, false, cond, ◌||◌}
use mathlib.Core.List.{List, [], ◌∷◌, ◌++◌, map}
use Prim.{tt}
use Prim.Native.Nat.{ℕ, zero, suc, ◌+◌, ◌≤◌, ◌<◌}
use native.Mathlib.Omega.{arith}
use lib.Dec.{eqb}
use lib.ListN.{length}
use borrow.Author.Tests.{eq-eqb}
use Rattle.std.specs.Prelude.{Some, None}
use Rattle.common.proofs.All.{all_map, all_append}
use Rattle.common.proofs.Tests.{or_right}
use Rattle.common.specs.Lists.{mem, All}
use Rattle.records.specs.declared.NodeRecord.{NodeRecord}
use Rattle.resolved_rows.specs.Cells as cells
use Rattle.resolved_rows.specs.Cells.{Cell}
use Rattle.resolved_rows.specs.Listed.{table_rows}
use Rattle.resolved_rows.specs.inner.Listed.{cell_line, all_cells}
use Rattle.grid_row.specs.Row.{Item, item_of, nexts}
use Rattle.grid_row.proofs.Merging.{row_each, nexts_each}
use Rattle.grid_positions.specs.Positions.{PositionRow, originals, all_rows}
use Rattle.grid_positions.proofs.TableFacts.{entries}
use Rattle.grid.specs.Grid.{Entry, entries_from, grid_row, grid_of, entries_of}
use Rattle.grid.specs.Judging.{Lined}
use Rattle.grid.proofs.GridCells.{grid_cells, owner_cell}
use Rattle.owners.specs.Owner.{filler_owner}

module _ (P : ℕ → Type 0) where
  abbrev OnCell : Cell → Type 0
  OnCell c = P c.line

  abbrev OnItem : Item → Type 0
  OnItem x = P x.owner

  abbrev OnEntry : Entry → Type 0
  OnEntry e = P e.owner

  -- it holds of all lines of the cells
  abbrev OnLines : List Cell → Type 0
  OnLines cs = (q : ℕ) → mem q (map cell_line cs) ≡ true → P q

  front_cells : (cs ds : List Cell) → OnLines (cs ++ ds) → All OnCell cs × OnLines ds
  unfolding All mem
  front_cells [] ds h = (tt, h)
  front_cells (c ∷ cs) ds h =
      let r = front_cells cs ds (λ q m. h q (or_right (eqb q c.line) (mem q (map cell_line (cs ++ ds))) m)) in
      ((h c.line (ap (λ (b : Bool). b || mem c.line (map cell_line (cs ++ ds))) (eq-eqb c.line c.line refl)), r.0), r.1)

  rows_items : (hs : List Item) (table : List cells.Row) → All OnItem hs → OnLines (all_cells table) → All (λ r. All OnItem r.items) (originals hs table)
  unfolding All originals all_cells
  rows_items hs [] a h = tt
  rows_items hs (r ∷ rs) a h =
      let f = front_cells r.cells (all_cells rs) h in
      let x = row_each OnItem (λ c q w. w) 0 hs (map item_of r.cells) a (all_map OnCell OnItem item_of (λ c w. w) r.cells f.0) in
      (x, rows_items (nexts (entries hs r)) rs (nexts_each OnItem OnItem (λ c m w. w) (entries hs r) x) f.1)

  row_entries : (rs : List PositionRow) (p : ℕ) (xs : List Item) → All OnItem xs → All OnEntry (entries_from rs p xs)
  unfolding All entries_from
  row_entries rs p [] a = tt
  row_entries rs p (x ∷ xs) a = (a.0, row_entries rs (p + x.span) xs a.1)

  rows_entries : (rs qs : List PositionRow) → All (λ r. All OnItem r.items) qs → All OnEntry (entries_of (map (grid_row rs) qs))
  unfolding All entries_of
  rows_entries rs [] a = tt
  rows_entries rs (q ∷ qs) a = all_append OnEntry (entries_from rs 0 q.items) (entries_of (map (grid_row rs) qs)) (row_entries rs 0 q.items a.0) (rows_entries rs qs a.1)

  pub grid_entries : (table : List cells.Row) → OnLines (all_cells table) → All OnEntry (entries_of (grid_of table))
  unfolding All grid_of
  grid_entries table h = rows_entries (all_rows table) (all_rows table) (rows_items [] table tt h)

  pub found_owner : (es : List Entry) (n c : ℕ) → All OnEntry es → filler_owner es n ≡ Some c → P c
  unfolding All filler_owner
  found_owner [] n c a e = let z : ◌≡◌ {A = ℕ} 0 1 = cc in absurd (omega arith)
  found_owner (x ∷ xs) zero c a e = go x.filler e
    where
      go : (b : Bool) → cond b (Some x.owner) None ≡ Some c → P c
      go true f = let q : x.owner ≡ c = cc in subst P q a.0
      go false f = let z : ◌≡◌ {A = ℕ} 0 1 = cc in absurd (omega arith)
  found_owner (x ∷ xs) (suc n) c a e = found_owner xs n c a.1 e

-- a line of the sheet
pub owner_line : (ks : List NodeRecord) (at n c : ℕ) → Lined ks → at < length ks → filler_owner (entries_of (grid_of (table_rows ks at))) n ≡ Some c → (1 ≤ c) × (c ≤ length ks)
owner_line ks at n c z h e =
    found_owner (λ q. (1 ≤ q) × (q ≤ length ks)) (entries_of (grid_of (table_rows ks at))) n c
    (grid_entries (λ q. (1 ≤ q) × (q ≤ length ks)) (table_rows ks at)
    (λ q m.
    let w = owner_cell z at h q (ap (mem q) (grid_cells (table_rows ks at)) ∙ m) in
    (w.0, omega (arith, w.1.within))))
    e
