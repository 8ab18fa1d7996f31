-- The grid of a table is made: the room is large enough for it, and what stands in the records are its entries and rows.
use mathlib.Core.Path.{◌≡◌}
use mathlib.Core.List.{List}
use Prim.Native.Nat.{ℕ}
use native.Mathlib.Omega.{arith}
use lib.ListN.{length, length-map}
use Rattle.records.specs.declared.RowEnd.{RowEnd}
use Rattle.records.specs.declared.NodeRecord.{NodeRecord}
use Rattle.records.specs.declared.Entry.{Entry}
use Rattle.resolved_rows.specs.Cells as cells
use Rattle.resolved_rows.specs.Listed.{table_rows}
use Rattle.records.specs.inner.Figures.{row_end, entry_span, row_lines_of, row_ends_of, entry_cells_of, entry_spans_of}
use Rattle.grid_positions.specs.declared.Positions.{Positions}
use Rattle.grid.specs.Grid.{grid_of}
use Rattle.grid.specs.inner.Placing.{PlacedGridPre, PlacedGridPost, PlaceTablePost}
use Rattle.grid.proofs.Rebuilt.{held_few}
use Rattle.grid.proofs.GridFacts.{grid_rows}
use Rattle.grid.proofs.Judging.{placed_ready, stands}
use Rattle.grid_build.specs.inner.Records.{TableReady, TableMade}
use Rattle.grid_build.proofs.RowRecords.{rows_are}

module _ {ks : List NodeRecord} {at : ℕ} (entries₀ : List Entry) (rows₀ : List RowEnd) (z : TableReady ks at entries₀ rows₀) where
  abbrev T : List cells.Row
  T = table_rows ks at

  module _ (entries : List Entry) (rows : List RowEnd) (le : length entries ≡ length entries₀) (lr : length rows ≡ length rows₀)
      {placed : Positions} (p : PlaceTablePost T placed (entry_spans_of entries) (entry_cells_of entries) (row_lines_of rows) (row_ends_of rows)) where
    -- the rows by positions can be numbered
    pub ready : PlacedGridPre placed.rows placed.entries (entry_spans_of entries) (row_ends_of rows)
    ready =
        placed_ready p z.sound
        (omega (arith, held_few ks at, z.row_capacity, length-map rows row_end))
        (omega (arith, z.entry_capacity, length-map entries entry_span))

    -- and then they are the grid
    pub made : {columns : ℕ} {es : List Entry} → PlacedGridPost placed.rows placed.entries (entry_spans_of entries) (entry_cells_of entries) (row_ends_of rows) columns es
        → TableMade T (record { rows = placed.rows; entries = placed.entries; columns = columns }) es rows
    made v =
        let g = stands p v in
        record {
          rows_are = g.rows_are;
          entries_are = g.entries_are;
          columns_are = g.columns_are;
          entries = g.entries;
          rows = rows_are (grid_of T) rows g.row_lines g.row_ends (omega (arith, grid_rows T z.sound, held_few ks at, z.row_capacity));
        }
