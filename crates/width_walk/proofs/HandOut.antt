-- A table gives its cells their widths: the entries of its grid that are cells stand on the lines of its cells, each of them on one.
use Rattle.std.specs.Prelude.{None, Option, Some}
use mathlib.Core.Path.{◌≡◌, refl, sym, ap, ◌∙◌, subst}
use mathlib.Core.Bool.{Bool, true, false, cond, ◌||◌}
use mathlib.Core.List.{List, [], ◌∷◌, map, map-map}
use Prim.Native.Nat.{ℕ, suc, ◌-◌, ◌≤◌, ◌<◌}
use native.Mathlib.Numerals.{add-one}
use native.Mathlib.Omega.{arith}
use lib.Dec.{eqb}
use lib.ListN.{length, get_or, take, length-map}
use lib.Seq.{length-take-le}
use borrow.Author.Tests.{ne_eqb}
use Rattle.common.proofs.All.{at_all, all_map}
use Rattle.common.specs.Lists.{mem}
use Rattle.common.specs.Limits.{max_size}
use Rattle.text.specs.declared.Estimate.{Estimate}
use Rattle.kinds.specs.Kinds.{kind_number, table_kind}
use Rattle.records.specs.NodeRecord.{no_node}
use Rattle.records.specs.inner.NodeRecord.{no_entry}
use Rattle.records.specs.declared.NodeRecord.{NodeRecord}
use Rattle.records.specs.declared.Entry as records
use Rattle.records.specs.declared.RowEnd.{RowEnd}
use Rattle.resolved_rows.specs.Listed.{table_rows}
use Rattle.grid.specs.Grid as grid
use Rattle.grid.specs.Grid.{Entry, shown_line, grid_of, columns_of}
use Rattle.grid.specs.Facts.{Sound, cell_owners, CellOf}
use Rattle.grid.specs.Judging.{shown}
use Rattle.grid.proofs.Tiling.{not_true}
use Rattle.grid.proofs.GridCells.{held_owners, owner_cell, entries_cells, IsCell}
use Rattle.table_layout.proofs.Cells.{shown_within}
use Rattle.table_layout.proofs.Grids.{all_cells, all_table}
use Rattle.grid.proofs.CellLines.{cell_line_lem}
use Rattle.grid.proofs.GridFacts.{grid_entries, grid_columns}
use Rattle.grid_build.specs.declared.Counts.{Counts}
use Rattle.widths.specs.declared.Laid.{Laid}
use Rattle.table_layout.specs.Laying.{places_in}
use Rattle.table_layout.specs.Arranging.{TableKnown, boxes_at}
use Rattle.table_layout.specs.inner.Arranging.{ArrangePost}
use Rattle.table_layout.specs.inner.Capacity.{GridCapacity, ArrangePre}
use Rattle.available_width.specs.Walk.{width_in, printed_in, cell_width}
use Rattle.width_walk.specs.inner.Steps.{printed_by, Walkable, ScratchCapacity, AtMost, HandOutPre, PrintCellsPre, HandOutPost}
use Rattle.records.specs.inner.Figures.{entry_cell}
use Rattle.width_walk.proofs.CellLoop.{place_other, place_cell}

-- ---- the lines that entries show

shown_mem : (q : ℕ) (es : List Entry) → mem (suc q) (map shown_line es) ≡ mem (suc q) (cell_owners es)
unfolding mem cell_owners
shown_mem q [] = refl
shown_mem q (e ∷ es) = go e.filler (shown_mem q es)
  where
    go : (b : Bool) → mem (suc q) (map shown_line es) ≡ mem (suc q) (cell_owners es)
        → (eqb (suc q) (cond b 0 e.owner) || mem (suc q) (map shown_line es)) ≡ mem (suc q) (cond b (cell_owners es) (e.owner ∷ cell_owners es))
    go true r = rw (ne_eqb (suc q) 0 (λ z. omega arith)) r
    go false r = ap (λ (b : Bool). eqb (suc q) e.owner || b) r

cells_shown : (es : List Entry) → map entry_cell (map shown es) ≡ map shown_line es
cells_shown es = map-map entry_cell shown es

-- ---- what is asked for

module _ {ks : List NodeRecord} {figures : List Estimate} (p : Walkable ks figures) {t : ℕ} (h : t < length ks) where
  module _ (kind : kind_number (get_or ks t no_node).kind ≡ table_kind) where
    sound_here : Sound (table_rows ks t)
    sound_here = p.sound t h kind

    pub table_known : TableKnown ks figures t
    table_known = record { within = h; lined = p.lined; sound = sound_here; measured = all_table t p.measured }

    module _ {entries : List records.Entry} {rows : List RowEnd} {column x wide : List ℕ} (r : ScratchCapacity entries rows column x wide) where
      pub grid_capacity : GridCapacity ks t entries rows
      grid_capacity = record { entry_capacity = omega (arith, sound_here.few, r.entry_capacity); row_capacity = omega (arith, p.lined.short, r.row_capacity) }

      pub layout_capacity : {v : ℕ} → v ≤ max_size → ArrangePre (table_rows ks t) v column x wide
      layout_capacity small = record {
        column_capacity = omega (arith, grid_columns (table_rows ks t) sound_here, r.column_capacity);
        x_capacity = omega (arith, grid_entries (table_rows ks t) sound_here, r.x_capacity);
        wide_capacity = omega (arith, grid_entries (table_rows ks t) sound_here, r.wide_capacity);
        small = small;
      }

  -- their widths have places
  pub wides_capacity : (kind : kind_number (get_or ks t no_node).kind ≡ table_kind) {entries : List records.Entry} {rows : List RowEnd} {column x : List ℕ} (wide₀ wide : List ℕ) → ScratchCapacity entries rows column x wide₀
      → length wide ≡ length wide₀ → length (grid.entries_of (grid_of (table_rows ks t))) ≤ length wide
  wides_capacity kind wide₀ wide r e = omega (arith, grid_entries (table_rows ks t) (sound_here kind), r.wide_capacity)

  -- ---- the table laid out

  abbrev es : List Entry
  es = grid.entries_of (grid_of (table_rows ks t))

  module _ {raw v : ℕ} {qs : List records.Entry} {rs : List RowEnd} {column x wide : List ℕ} {counts : Counts} {laid : Laid}
      (a : ArrangePost ks t figures raw v qs rs column x wide counts laid) where
    cells_are : map entry_cell (take counts.entries qs) ≡ map shown_line es
    cells_are = ap (λ (n : ℕ). map entry_cell (take n qs)) a.made.entries_are ∙ ap (map entry_cell) a.made.entries ∙ cells_shown es

    taken : take counts.entries qs ≡ map shown es
    taken = ap (λ (n : ℕ). take n qs) a.made.entries_are ∙ a.made.entries

    pub cells_fit : (ps : List (Option ℕ)) → length es ≤ length wide → length ks ≤ length ps → PrintCellsPre (take counts.entries qs) (take counts.entries wide) ps
    cells_fit ps w n = rw taken (record {
      wide_in = omega (arith, length-map es shown, a.made.entries_are, length-take-le counts.entries wide (omega (arith, a.made.entries_are)));
      capacity = λ k l.
          at_all (λ y. y.cell ≤ length ps) no_entry (map shown es) k
          (all_map (IsCell ks t) (λ y. y.cell ≤ length ps) shown (λ y. shown_within (length ps) ks t y n) es (entries_cells p.lined t h)) l;
    })

    module _ (kind : kind_number (get_or ks t no_node).kind ≡ table_kind) (N : ℕ) (e : N ≡ counts.entries) (ew : length es ≤ length wide) (ps₀ ps : List (Option ℕ))
        (n : length ks ≤ length ps₀) (w : ps ≡ printed_by (map entry_cell (take N qs)) (take N wide) ps₀) where
      member : (i : ℕ) → mem (suc i) (map entry_cell (take N qs)) ≡ mem (suc i) (cell_owners es)
      member i = ap (mem (suc i)) (ap (λ (m : ℕ). map entry_cell (take m qs)) e ∙ cells_are) ∙ shown_mem i es

      is_cell : (i : ℕ) → CellOf ks t i → mem (suc i) (cell_owners es) ≡ true
      is_cell i c = ap (mem (suc i)) (held_owners p.lined t h) ∙ cell_line_lem ks t i c

      no_cell : (i : ℕ) → (CellOf ks t i → ⊥) → mem (suc i) (cell_owners es) ≡ false
      no_cell i c =
          let k : suc i - 1 ≡ i = omega arith in
          not_true (mem (suc i) (cell_owners es)) (λ m. c (subst (CellOf ks t) k (owner_cell p.lined t h (suc i) m).1))

      pub handed : HandOutPost ks t figures raw (Some v) ps₀ ps
      unfolding cell_width
      handed = record {
        cell = λ wrap f i c _.
            let l = a.laid wrap (all_cells t wrap f) in
            let vs : take N wide ≡ map width_in (places_in (columns_of (table_rows ks t)) (boxes_at wrap ks t) raw v) =
            ap (λ (m : ℕ). take m wide) (e ∙ a.made.entries_are) ∙ l.wides_are in
            ap (λ (y : List (Option ℕ)). get_or y i None) w
            ∙ place_cell (map entry_cell (take N qs)) (take N wide) ps₀ i counts_same (member i ∙ is_cell i c.1) (omega (arith, c.1.within))
            ∙ (λ j. printed_in ((ap (λ (m : ℕ). map entry_cell (take m qs)) e ∙ cells_are) j) (vs j) (sym (add-one i) j));
        other = λ i c. ap (λ (y : List (Option ℕ)). get_or y i None) w ∙ place_other (map entry_cell (take N qs)) (take N wide) ps₀ i (member i ∙ no_cell i (λ o. c (kind, o)));
      }
        where
          counts_same : length (take N wide) ≡ length (map entry_cell (take N qs))
          counts_same =
              length-take-le N wide (omega (arith, a.made.entries_are))
              ∙ e ∙ a.made.entries_are
              ∙ sym (ap length (ap (λ (m : ℕ). map entry_cell (take m qs)) e ∙ cells_are) ∙ length-map es shown_line)

-- the width of the line
pub small_here : {ks : List NodeRecord} {t : ℕ} {w : Option ℕ} {v : ℕ} → w ≡ Some v → HandOutPre ks t w → v ≤ max_size
unfolding AtMost
small_here e r = rw e at r.small

pub handed_at : {ks : List NodeRecord} {t : ℕ} {figures : List Estimate} {raw : ℕ} {w : Option ℕ} {v : ℕ} {ps₀ ps : List (Option ℕ)} → w ≡ Some v
    → HandOutPost ks t figures raw (Some v) ps₀ ps → HandOutPost ks t figures raw w ps₀ ps
handed_at e h = rw e h

-- ---- nothing is given

pub handed_none : {ks : List NodeRecord} {t : ℕ} {figures : List Estimate} {raw : ℕ} {w : Option ℕ} {ps : List (Option ℕ)} → w ≡ None → HandOutPost ks t figures raw w ps ps
unfolding cell_width
handed_none {ks} {t} {raw = raw} e = record { cell = λ wrap f i c z. z ∙ sym (ap (λ (x : Option ℕ). (cell_width wrap raw ks t x i)) e); other = λ i c. refl }
