-- One table laid out in lent slices, from the records of its entries.
use Rattle.std.specs.Prelude.{◌≡◌, List, map, ℕ, ◌≤◌}
use Rattle.text.specs.declared.Estimate.{Estimate}
use Rattle.records.specs.declared.Entry.{Entry}
use Rattle.records.specs.declared.RowEnd.{RowEnd}
use Rattle.columns.specs.Boxes.{Box}
use Rattle.columns.specs.inner.Boxes.{rows_by}
use Rattle.widths.specs.Widths.{table_width}
use Rattle.widths.specs.declared.Laid.{Laid}
use Rattle.placement.specs.Place.{Placed}
use Rattle.records.specs.inner.Figures.{row_end}
use Rattle.placement.specs.Promise.{Promised}
use Rattle.column_sizes.specs.inner.Sizing.{entry_box}
use Rattle.table_layout.specs.Laying.{places_in, way_in, widths_in}

-- the rows of the boxes of all entries
unfoldable pub box_rows_by : List RowEnd → List Entry → List Estimate → List (List Box)
box_rows_by rs es figures = rows_by 0 (map row_end rs) (map (entry_box figures) es)

-- the table laid out: its way and its own width, its final widths, x and width of each entry; and the third demand, with what holds down the page
pub record LaidTable (columns : ℕ) (rows : List (List Box)) (raw width : ℕ) (column xs wides : List ℕ) (r : Laid) : Type 0 where
  pub way_is : r.way ≡ way_in columns rows raw width
  pub width_is : r.width ≡ table_width (way_in columns rows raw width) (widths_in columns rows raw width) width
  pub column_is : column ≡ widths_in columns rows raw width
  pub xs_are : xs ≡ map (λ (p : Placed). p.x) (places_in columns rows raw width)
  pub wides_are : wides ≡ map (λ (p : Placed). p.width) (places_in columns rows raw width)
  pub promised : raw ≤ 1 → Promised columns rows raw width (way_in columns rows raw width) (widths_in columns rows raw width)
