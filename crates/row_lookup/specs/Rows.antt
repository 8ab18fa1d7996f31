-- A row of a table's grid: its entries, their places, and the refusal where there is no such row.
use Rattle.common.specs.declared.Reason.TheVariants.{NoTable}
use Rattle.std.specs.Prelude.{Bool, true, false, ◌||◌, List, [], ℕ, leb, length, get_or, take}
use Rattle.common.specs.Refusals.{Check, check}
use Rattle.grid.specs.Grid.{GridRow, entries_of}
use Rattle.answers.specs.declared.Way.{Way}
use Rattle.answers.specs.declared.Way.TheVariants.{Sideways, Down}
use Rattle.placement.specs.Place.{Placed, place_row}
use Rattle.sheet_figures.specs.Figures.{rows_at, boxes_at, way_at, widths_at}

-- ---- a row of the table's grid, rows counted from 0

-- how many entries of a grid stand in its first rows
abbrev pub start_in : List GridRow → ℕ → ℕ
start_in g row = length (entries_of (take row g))

-- the number of the row's first entry: so many stand in the rows before it
abbrev pub row_start : List ℕ → ℕ → ℕ → ℕ
row_start s line row = start_in (rows_at s line) row

-- the placed entries of the row; past the last row there are none
abbrev pub row_places : List ℕ → ℕ → ℕ → ℕ → ℕ → ℕ → List Placed
row_places s line wrap raw width row =
    place_row (way_at s line wrap raw width) (widths_at s line wrap raw width) width (get_or (boxes_at s line wrap) row [])

-- ---- what is refused

unfoldable pub goes_down : Way → Bool
goes_down Sideways = false
goes_down Down = true

-- 10: the table goes down, or has no such row
abbrev pub row_check : Way → List GridRow → ℕ → Check
row_check way g row = check (goes_down way || leb (length g) row) NoTable 0

abbrev pub late_check : List ℕ → ℕ → ℕ → ℕ → ℕ → ℕ → Check
late_check s line wrap raw width row = row_check (way_at s line wrap raw width) (rows_at s line) row
