-- The figures of a sheet's tables and lines, by the sheet's bytes, a line and the settings.
use Rattle.std.specs.Prelude.{List, ℕ, ◌-◌, drop}
use Rattle.text.specs.declared.Estimate.{Estimate}
use Rattle.columns.specs.Boxes.{Box, flat}
use Rattle.columns.specs.Columns as columns
use Rattle.columns.specs.Columns.{largest}
use Rattle.resolved_rows.specs.Cells as cells
use Rattle.resolved_rows.specs.Listed.{table_rows}
use Rattle.grid.specs.Grid.{GridRow, grid_of, columns_of}
use Rattle.estimates.specs.Estimates.{measured, box_rows}
use Rattle.widths.specs.Widths.{way_of, final_widths, table_width}
use Rattle.answers.specs.declared.Way.{Way}
use Rattle.placement.specs.Place.{Placed, place_rows}
use Rattle.sheet_load.specs.Opening.{nodes_of}

-- of a line
abbrev pub line_size : Estimate → ℕ
line_size e = e.size

abbrev pub line_least : Estimate → ℕ
line_least e = e.least

abbrev pub line_prefix : Estimate → ℕ
line_prefix e = e.prefix

-- of an entry's place
abbrev pub x_of : Placed → ℕ
x_of p = p.x

abbrev pub width_of : Placed → ℕ
width_of p = p.width

-- the resolved rows of the table in a line of the sheet
abbrev pub table_at : List ℕ → ℕ → List cells.Row
table_at s line = table_rows (nodes_of s) (line - 1)

-- its grid, and its columns
abbrev pub rows_at : List ℕ → ℕ → List GridRow
rows_at s line = grid_of (table_at s line)

abbrev pub columns_at : List ℕ → ℕ → ℕ
columns_at s line = columns_of (table_at s line)

-- its rows of boxes: the entries with their cells' estimates at this wrap, which are among those of the lines after the table's
abbrev pub boxes_at : List ℕ → ℕ → ℕ → List (List Box)
boxes_at s line wrap = box_rows line (drop line (measured wrap 1 (nodes_of s))) (rows_at s line)

-- the way, the final widths, the table's width and the places of the entries
abbrev pub sizes_at : List ℕ → ℕ → ℕ → List ℕ
sizes_at s line wrap = largest columns.size_of (flat (boxes_at s line wrap)) (columns_at s line)

abbrev pub leasts_at : List ℕ → ℕ → ℕ → List ℕ
leasts_at s line wrap = largest columns.least_of (flat (boxes_at s line wrap)) (columns_at s line)

abbrev pub way_at : List ℕ → ℕ → ℕ → ℕ → ℕ → Way
way_at s line wrap raw width = way_of raw width (leasts_at s line wrap)

abbrev pub widths_at : List ℕ → ℕ → ℕ → ℕ → ℕ → List ℕ
widths_at s line wrap raw width = final_widths (way_at s line wrap raw width) (sizes_at s line wrap) (leasts_at s line wrap) width

abbrev pub width_at : List ℕ → ℕ → ℕ → ℕ → ℕ → ℕ
width_at s line wrap raw width = table_width (way_at s line wrap raw width) (widths_at s line wrap raw width) width

abbrev pub places_at : List ℕ → ℕ → ℕ → ℕ → ℕ → List Placed
places_at s line wrap raw width = place_rows (way_at s line wrap raw width) (widths_at s line wrap raw width) width (boxes_at s line wrap)
