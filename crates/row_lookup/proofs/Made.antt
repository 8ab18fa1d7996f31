-- One table of a measured sheet, laid out: the row's place among its entries, and every row's places in the slices.
use Rattle.records.specs.declared.RowEnd.{RowEnd}
use Rattle.common.specs.declared.Refusal.{Refusal}
use Rattle.std.specs.Prelude.{Result}
use mathlib.Core.Path.{◌≡◌, sym, ap, ◌∙◌}
use mathlib.Core.List.{List, map}
use Prim.Native.Nat.{ℕ, suc, ◌+◌, ◌≤◌}
use native.Mathlib.Numerals.{add-one}
use native.Mathlib.Omega.{arith}
use lib.ListN.{length, take}
use lib.Seq.{slice, take_all}
use Rattle.common.specs.Limits.{max_size, max_entries, max_lines}
use Rattle.records.specs.declared.Entry as records
use Rattle.columns.specs.Boxes.{Box, flat}
use Rattle.resolved_rows.specs.Cells as cells
use Rattle.resolved_rows.specs.Listed.{table_rows}
use Rattle.grid.specs.Grid.{Entry, GridRow, grid_of, entries_of}
use Rattle.grid.proofs.GridFacts.{grid_entries}
use Rattle.estimates.specs.Estimates.{box_of}
use Rattle.answers.specs.declared.Way.{Way}
use Rattle.placement.specs.Place.{place_rows}
use Rattle.placement.specs.inner.Rows.{Written}
use Rattle.hit_test.specs.Point.{placed}
use Rattle.hit_test.proofs.RowPart.{row_written}
use Rattle.table_layout.specs.inner.Arranging.{ArrangePost}
use Rattle.table_layout.specs.declared.MeasuredTable.{MeasuredTable}
use Rattle.table_layout.specs.declared.Arrangement.{Arrangement}
use Rattle.table_layout.specs.inner.Capacity.{ArrangePre}
use Rattle.table_layout.proofs.LayoutFitted.{layout_capacity}
use Rattle.row_lookup.specs.Rows.{start_in}
use Rattle.row_lookup.specs.declared.Span.{Span}
use Rattle.row_lookup.specs.inner.Ranges.{HasRows, range_in, PlacesCapacity, RowsPlaced, FindRowPost}
use Rattle.row_lookup.proofs.RowStarts.{start_all, start_next, start_boxes}

-- the rows of a grid in two slices
rows_told : (way : Way) (ws : List ℕ) (width : ℕ) (f : Entry → Box) (g : List GridRow) (x wide : List ℕ)
    → Written (place_rows way ws width (map (λ (r : GridRow). map f r.entries) g)) (take (length (entries_of g)) x) (take (length (entries_of g)) wide)
    → length (entries_of g) ≤ max_entries → PlacesCapacity x wide
    → RowsPlaced way ws width g (map (λ (r : GridRow). map f r.entries) g) x wide
rows_told way ws width f g x wide w few capacity = record {
  places = λ k.
      rw (add-one k)
      (ap (λ (a : ℕ). slice a (start_in g (suc k)) (placed x wide)) (sym (start_boxes f g k))
      ∙ ap (λ (b : ℕ). slice (length (flat (take k rows))) b (placed x wide)) (sym (start_boxes f g (suc k)))
      ∙ row_written way ws width rows (length (entries_of g)) x wide total w k);
  slices = λ k. record {
    order = start_next g k;
    xs_there = omega (arith, start_all g (k + 1), capacity.x_capacity);
    wides_there = omega (arith, start_all g (k + 1), capacity.wide_capacity);
  };
  few = λ k. omega (arith, start_all g k);
}
  where
    rows : List (List Box)
    rows = map (λ (r : GridRow). map f r.entries) g

    total : length (flat rows) ≡ length (entries_of g)
    total =
        ap (λ (l : List (List Box)). length (flat l)) (sym (take_all (length rows + length g) rows (omega arith)))
        ∙ start_boxes f g (length rows + length g)
        ∙ ap (λ (l : List GridRow). length (entries_of l)) (take_all (length rows + length g) g (omega arith))

module _ (k : MeasuredTable) where
  abbrev T : List cells.Row
  T = table_rows k.lines.now k.at

  pub arrange_capacity : {width : ℕ} {column x wide : List ℕ} → width ≤ max_size → max_lines ≤ length column → PlacesCapacity x wide → ArrangePre T width column x wide
  arrange_capacity h c r = layout_capacity k.known.sound h (record { column_capacity = c; x_capacity = r.x_capacity; wide_capacity = r.wide_capacity })

  module _ {raw width : ℕ} {es : List records.Entry} {rows : List RowEnd} {column x wide : List ℕ} {a : Arrangement}
      (m : ArrangePost k.lines.now k.at k.figures.now raw width es rows column x wide a.counts a.laid) where
    pub spot_made : {row : ℕ} {r : Result Span Refusal} → PlacesCapacity x wide → ((g : List GridRow) → HasRows (take a.counts.rows rows) g → r ≡ range_in a.laid.way g row)
        → FindRowPost k.lines.now k.at k.figures.now raw width row r x wide
    spot_made {row} capacity s = record {
      made = λ wrap f.
          let l = m.laid wrap f in
          record {
            answer = s (grid_of T) (rw m.made.rows_are m.made.rows) ∙ ap (λ (w : Way). range_in w (grid_of T) row) l.way_is;
            told = rows_told _ _ width (box_of (k.at + 1) _) (grid_of T) x wide (record { x = l.xs_are; wide = l.wides_are }) (grid_entries T k.known.sound) capacity;
          };
    }
