-- From a grid and the estimates of its cells to what laying out a table asks for, and from its answer to the boxes of the definition: the rows
-- of the records' boxes are the rows of the grid's boxes, which tile the columns.
use mathlib.Core.Path.{◌≡◌, ap, ◌∙◌}
use mathlib.Core.List.{List}
use Prim.Native.Nat.{ℕ, ◌≤◌}
use native.Mathlib.Nat.{zero-add}
use native.Mathlib.Omega.{arith}
use lib.ListN.{length, get_or, drop, length-map}
use Rattle.common.specs.Lists.{All}
use Rattle.common.specs.Limits.{max_position, max_size}
use Rattle.text.specs.declared.Estimate.{Estimate}
use Rattle.records.specs.inner.NodeRecord.{no_entry}
use Rattle.records.specs.declared.Entry.{Entry}
use Rattle.records.specs.declared.RowEnd.{RowEnd}
use Rattle.grid.specs.Grid.{GridRow, entries_of}
use Rattle.estimates.specs.Estimates.{MeasuredNode, box_rows}
use Rattle.widths.specs.declared.Laid.{Laid}
use Rattle.grid.specs.Judging.{shown}
use Rattle.table_layout.specs.inner.Laying.{box_rows_by, LaidTable}
use Rattle.table_layout.specs.inner.Capacity.{LayPre}
use Rattle.table_layout.specs.inner.Grids.{RowTiles, RowKnown, Listed}
use Rattle.table_layout.proofs.Boxes.{boxes_of_grid, ends_ascend, lines_within, tiles_known}

pub entry_count : {g : List GridRow} {es : List Entry} {rs : List RowEnd} → Listed g es rs → length es ≡ length (entries_of g)
entry_count {g} p = ap length p.entries ∙ length-map (entries_of g) shown

-- the table in line t
module _ {g : List GridRow} (all : List MeasuredNode) (figures : List Estimate) {es : List Entry} {rs : List RowEnd} (p : Listed g es rs)
    (t : ℕ) (known : All (RowKnown t all figures) g) where
  pub table_rows_lem : box_rows_by rs es figures ≡ box_rows t (drop t all) g
  unfolding box_rows_by
  table_rows_lem = rw (p.entries, p.rows) (boxes_of_grid all figures t g known)

  pub table_layable : (columns : ℕ) → All (RowTiles columns) g → {width : ℕ} {column xs wides : List ℕ} → length column ≡ columns → length xs ≡ length es → length wides ≡ length es →
      columns ≤ max_position → width ≤ max_size → LayPre es rs figures width column xs wides
  table_layable columns tiles c x w few small =
      record {
        xs_length = x;
        wides_length = w;
        within = λ i h. cell_within i;
        ascends = rw (p.rows, entry_count p) (rw zero-add at (ends_ascend 0 g));
        tiles = rw (c, table_rows_lem) (tiles_known all figures t columns g tiles known);
        columns = omega (arith, c);
        small = small;
      }
    where
      cell_within : (i : ℕ) → (get_or es i no_entry).cell ≤ length figures
      cell_within i = rw p.entries (lines_within all figures t g known i)

  pub table_laid : {n columns raw width : ℕ} {column xs wides : List ℕ} {r : Laid} → n ≡ columns →
      LaidTable n (box_rows_by rs es figures) raw width column xs wides r → LaidTable columns (box_rows t (drop t all) g) raw width column xs wides r
  table_laid e l = rw (e, table_rows_lem) at l
