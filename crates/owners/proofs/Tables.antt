-- The grid of the table at a place: its entries follow from its cells, and each record shows the line of its item.
use mathlib.Core.Path.{◌≡◌, sym, ap, ◌∙◌}
use mathlib.Core.Bool.{true}
use mathlib.Core.List.{List, [], map, map-map}
use Prim.Native.Nat.{ℕ, ◌+◌, ◌/◌, ◌≤◌, ◌<◌}
use native.Mathlib.Omega.{arith}
use lib.ListN.{length, get_or, drop, length-map, get_or-append}
use lib.Seq.{get_or-take}
use Rattle.std.proofs.lemmas.List.{get_or-map, get_or-drop}
use Rattle.std.specs.Prelude.{None, Some}
use Rattle.common.specs.Lists.{All}
use Rattle.common.specs.Limits.{max_entries}
use Rattle.common.specs.inner.Lists.{over}
use Rattle.common.proofs.All.{all_at, all_weaken}
use Rattle.records.specs.NodeRecord.{no_node}
use Rattle.records.specs.declared.NodeRecord.{NodeRecord}
use Rattle.records.specs.declared.Entry.{Entry as Record}
use Rattle.records.specs.inner.NodeRecord.{no_entry}
use Rattle.records.specs.inner.Figures.{entry_cell}
use Rattle.resolved_rows.specs.Cells.{bodies_of}
use Rattle.resolved_rows.specs.Cells as cells
use Rattle.resolved_rows.specs.Listed.{table_rows}
use Rattle.resolved_rows.specs.Facts.{LineFits, RowFits, CellFits}
use Rattle.resolved_rows.specs.declared.Cell.{Cell}
use Rattle.resolved_rows.specs.inner.Listed.{all_cells, cell_rows, ListRowsPost}
use Rattle.resolved_rows.specs.inner.Held.{cell_by, no_cell, cells_of, held_rows, rowspans_of}
use Rattle.resolved_rows.proofs.Figures.{figure_at_lem}
use Rattle.resolved_rows.proofs.Facts.{rows_fit}
use Rattle.grid_row.specs.Row.{Item, item_of}
use Rattle.grid_row.specs.inner.Row.{item_line}
use Rattle.grid_positions.specs.Positions.{all_rows}
use Rattle.grid_positions.specs.inner.Slices.{all_items}
use Rattle.grid.specs.Grid.{Entry, grid_of, entries_of}
use Rattle.grid.specs.Judging.{Lined, shown}
use Rattle.grid.proofs.GridLists.{grid_shown}
use Rattle.grid.proofs.GridFacts.{grid_entries}
use Rattle.owners.specs.Owner.{filler_owner}
use Rattle.owners.specs.inner.Finding.{grid_records, FindOwnerPre}
use Rattle.owners.proofs.Following.{Follows, Lines, rows_follow}
use Rattle.owners.proofs.Owners.{no_item, item_owner, shown_none, owner_past, rows_length, rows_owner}

module _ (ks : List NodeRecord) (at : ℕ) where
  abbrev pub T : List cells.Row
  T = table_rows ks at

  -- its cells as items, and the items of its rows
  abbrev pub table_cells : List Item
  table_cells = map item_of (all_cells T)

  abbrev pub table_items : List Item
  table_items = all_items (all_rows T)

  abbrev G : List Entry
  G = entries_of (grid_of T)

  lines_fit : Lined ks → All LineFits (drop (at + 1) ks)
  lines_fit l = all_at LineFits no_node (drop (at + 1) ks) (λ k h. record { narrow = rw (get_or-drop (at + 1) ks k no_node) (l.narrow (at + 1 + k)) })

  cells_lined : Lined ks → Lines T
  unfolding table_rows
  cells_lined l =
      let n = length (drop (at + 1) ks) in
      all_weaken (RowFits (at + 1) n) (λ r. All (λ c. 1 ≤ c.line) r.cells)
      (λ r f. all_weaken (CellFits (at + 1) n) (λ c. 1 ≤ c.line) (λ c g. omega (arith, g.after)) r.cells f.cells)
      T (rows_fit (get_or ks at no_node).depth (at + 1) (drop (at + 1) ks) (lines_fit l))

  -- the entries follow from the cells
  pub table_follows : Lined ks → Follows [] table_cells table_items
  unfolding All
  table_follows l = rows_follow [] T tt (cells_lined l)

  pub records_length : length (grid_records ks at) ≡ length table_items
  unfolding grid_of
  records_length = length-map G _ ∙ rows_length (all_rows T) (all_rows T)

  -- a record shows the line of its item
  pub record_line : (d : Record) (n : ℕ) → n < length table_items → (get_or (grid_records ks at) n d).cell ≡ item_line (get_or table_items n no_item)
  unfolding grid_of
  record_line d n h =
      sym (get_or-map entry_cell (grid_records ks at) n d 0 (omega (arith, records_length)))
      ∙ ap (λ (l : List ℕ). get_or l n 0) (map-map entry_cell shown G ∙ sym (grid_shown (all_rows T) (all_rows T)))
      ∙ get_or-map item_line table_items n no_item 0 h

  -- and its owner
  pub record_owner : (n : ℕ) → n < length table_items → filler_owner (entries_of (grid_of T)) n ≡ item_owner (get_or table_items n no_item)
  unfolding grid_of
  record_owner n h = rows_owner (all_rows T) (all_rows T) n h

  -- past the last record there is none, and none where a line is shown
  pub record_past : (n : ℕ) → length (grid_records ks at) ≤ n → filler_owner (entries_of (grid_of T)) n ≡ None
  record_past n h = owner_past (entries_of (grid_of T)) n (omega (arith, h, length-map G shown))

  pub record_none : (d : Record) (n : ℕ) → n < length (grid_records ks at) → ¬ ((get_or (grid_records ks at) n d).cell ≡ 0) → filler_owner (entries_of (grid_of T)) n ≡ None
  record_none d n h e =
      let m : n < length table_items = omega (arith, h, records_length) in
      record_owner n m ∙ shown_none (get_or table_items n no_item) (λ l. e (record_line d n m ∙ l))

  -- ---- of the entries before a filler

  module _ {es : List Record} (f : FindOwnerPre ks at es) where
    pub entry_in : {k : ℕ} → k ≤ length es → k < length table_items
    entry_in h = omega (arith, h, f.more, records_length)

    pub entry_line : {k : ℕ} → k < length es → (get_or es k no_entry).cell ≡ item_line (get_or table_items k no_item)
    entry_line {k} h =
        ap (λ (l : List Record). (get_or l k no_entry).cell) f.front
        ∙ ap (λ (e : Record). e.cell) (get_or-take (length es) (grid_records ks at) k no_entry h)
        ∙ record_line no_entry k (entry_in (omega arith))

    pub entries_few : length es < max_entries
    entries_few = omega (arith, f.more, length-map G shown, grid_entries T f.sound)

    -- the filler, and its owner
    module _ {n : ℕ} (e : n ≡ length es) where
      pub filler_line : item_line (get_or table_items n no_item) ≡ 0
      filler_line = sym (record_line no_entry n (entry_in (omega (arith, e)))) ∙ ap (λ (k : ℕ). (get_or (grid_records ks at) k no_entry).cell) e ∙ f.filler

      pub found_owner : (get_or table_items n no_item).filler ≡ true → filler_owner (entries_of (grid_of T)) (length es) ≡ Some (get_or table_items n no_item).owner
      found_owner t = rw (sym e) (record_owner n (entry_in (omega (arith, e))) ∙ rw t)

-- ---- the cells as they are listed

-- how many rows one takes
pub listed_rows : {rs : List cells.Row} {line₀ span₀ rows₀ row₀ end₀ line span row end : List ℕ} (xs : List ℕ) {n m : ℕ}
    → ListRowsPost rs line₀ span₀ rows₀ row₀ end₀ line span (rowspans_of xs) row end n m → {i : ℕ} → i < length (all_cells rs) → i < length xs / 3
    → {c : Cell} → c ≡ get_or (cells_of xs) i no_cell → c.rows ≡ get_or (map cell_rows (all_cells rs)) i 0
unfolding over
listed_rows {rs} {rows₀} xs w {i} h l e =
    ap held_rows e
    ∙ sym (figure_at_lem 3 cell_by held_rows xs i l)
    ∙ ap (λ (x : List ℕ). get_or x i 0) w.written.rowspans
    ∙ get_or-append (map cell_rows (all_cells rs)) _ 0 i (omega (arith, length-map (all_cells rs) cell_rows))
