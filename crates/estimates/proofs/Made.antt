-- The records of a grid that is made are entries that fit, and what is made of them is the table's estimate by its definition, where the figures of
-- its cells are those of the lines after it.
use mathlib.Core.Path.{◌≡◌, refl, sym, ap, ◌∙◌}
use mathlib.Core.Bool.{Bool, true, false, cond}
use mathlib.Core.List.{List}
use Prim.Native.Nat.{ℕ, suc, ◌-◌, ◌≤◌, ◌<◌}
use native.Mathlib.Omega.{arith}
use lib.ListN.{length, get_or}
use Rattle.common.specs.Lists.{All}
use Rattle.common.proofs.All.{all_both, all_map, all_weaken, at_all}
use Rattle.text.specs.declared.Estimate.{Estimate}
use Rattle.records.specs.inner.NodeRecord.{no_entry}
use Rattle.records.specs.declared.NodeRecord.{NodeRecord}
use Rattle.records.specs.declared.Entry as records
use Rattle.records.specs.declared.RowEnd.{RowEnd}
use Rattle.columns.specs.Boxes.{flat}
use Rattle.resolved_rows.specs.Listed.{table_rows}
use Rattle.grid.specs.Grid.{Entry, grid_of, columns_of, entries_of}
use Rattle.grid.specs.Facts.{Sound, CellOf}
use Rattle.grid.specs.Judging.{Lined, shown}
use Rattle.grid.proofs.GridFacts.{Within, held_spanned, grid_within, grid_columns}
use Rattle.grid.proofs.GridCells.{IsCell, entries_cells}
use Rattle.grid_build.specs.inner.Cut.{GridRecords}
use Rattle.estimates.specs.Estimates.{MeasuredNode, unmeasured, none, box_rows, tabled}
use Rattle.estimates.specs.inner.Spread.{entry_boxes, EntryFits, TabulatePre, Tabulated, records_at, TableFiguresPre}
use Rattle.estimates.proofs.Fillers.{Estimated, flat_boxes, tabled_records}

module _ {ks : List NodeRecord} {at scratch m n : ℕ} {es : List Estimate} (r : TableFiguresPre ks at es scratch m n) where
  abbrev xs : List Entry
  xs = entries_of (grid_of (table_rows ks at))

  entry_measured : (e : Entry) → IsCell ks at e → (f : Bool) → e.filler ≡ f → cond f 0 e.owner ≤ length es
  entry_measured e i true h = omega arith
  entry_measured e i false h = omega (arith, (i h).0, (i h).1.within, r.measured)

  entry_sound : (e : Entry) → IsCell ks at e → (f : Bool) → e.filler ≡ f → (cond f 0 e.owner ≡ 0 → ⊥)
      → (get_or es (cond f 0 e.owner - 1) none).least ≤ (get_or es (cond f 0 e.owner - 1) none).size
  entry_sound e i true h z = absurd (z refl)
  entry_sound e i false h z = r.bounded (e.owner - 1) (i h).1

  entries_fit : All (λ e. EntryFits es (columns_of (table_rows ks at)) (shown e)) xs
  entries_fit =
      all_both (Within (columns_of (table_rows ks at))) (IsCell ks at) (λ e. EntryFits es (columns_of (table_rows ks at)) (shown e))
      (λ e w i. record { some = λ _. w.0; ends = λ _. w.1; measured = entry_measured e i e.filler refl; sound = entry_sound e i e.filler refl })
      xs (grid_within (table_rows ks at) r.sound (held_spanned ks at)) (entries_cells r.lined at r.within)

  records_fit : All (EntryFits es (columns_of (table_rows ks at))) (records_at ks at)
  records_fit = all_map (λ e. EntryFits es (columns_of (table_rows ks at)) (shown e)) (EntryFits es (columns_of (table_rows ks at))) shown (λ e p. p) xs entries_fit

-- what is read of the records, once the grid is made
module _ {ks : List NodeRecord} {at scratch m n : ℕ} (figures : List Estimate) (r : TableFiguresPre ks at figures scratch m n) {entries : List records.Entry} {rows : List RowEnd} {columns : ℕ}
    (g : GridRecords (table_rows ks at) entries rows columns) where
  pub tabulate_ready : TabulatePre entries columns figures scratch
  tabulate_ready = rw (g.entries_are, g.columns_are) (record {
    spread = record {
      fit = λ k h. at_all (EntryFits figures (columns_of (table_rows ks at))) no_entry (records_at ks at) k (records_fit r) h;
      capacity = r.capacity;
    };
    few = grid_columns (table_rows ks at) r.sound;
    capacity = r.column_capacity;
  })

-- the definition: line t is the table's, and rest are the lines after it with their estimates
module _ {ks : List NodeRecord} {at : ℕ} (z : Lined ks) (within : at < length ks) (sound : Sound (table_rows ks at)) (es : List Estimate)
    (t : ℕ) (rest : List MeasuredNode) (f : (k : ℕ) → CellOf ks at k → get_or es k none ≡ (get_or rest (k - t) unmeasured).est) where
  estimated : (e : Entry) → IsCell ks at e → Estimated t rest es e
  estimated e i = record {
    owned = λ h. (i h).0;
    same = λ h. let k : e.owner - 1 - t ≡ e.owner - suc t = omega arith in f (e.owner - 1) (i h).1 ∙ ap (λ (x : ℕ). (get_or rest x unmeasured).est) k;
  }

  pub figured : {p : Estimate} → Tabulated (columns_of (table_rows ks at)) (entry_boxes es (records_at ks at)) p
      → p ≡ tabled (columns_of (table_rows ks at)) (flat (box_rows t rest (grid_of (table_rows ks at))))
  figured s =
      let xs = entries_of (grid_of (table_rows ks at)) in
      s.est
      ∙ tabled_records t rest es (columns_of (table_rows ks at)) xs (all_weaken (IsCell ks at) (Estimated t rest es) estimated xs (entries_cells z at within))
      (grid_within (table_rows ks at) sound (held_spanned ks at))
      ∙ ap (tabled (columns_of (table_rows ks at))) (sym (flat_boxes t rest (grid_of (table_rows ks at))))
