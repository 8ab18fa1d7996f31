-- The number that `at` and `within` answer for an entry is its place in the buffers of `grid` and `layout`: they answer the number of a row's first
-- entry and j more for entry j of the row, and at that place all entries of the table have this entry, and all places its place. These are statements;
-- proofs/Numbers has their proofs.
use Rattle.std.specs.Prelude.{◌≡◌, ℕ, List, ◌+◌, ◌<◌, length, get_or}
use Rattle.grid.specs.Grid.{Entry, entries_of}
use Rattle.grid.specs.Owners.{row_at}
use Rattle.hit_test.specs.Exact.{entry}
use Rattle.placement.specs.Place.{at}
use Rattle.sheet_figures.specs.Figures.{rows_at, places_at}
use Rattle.row_lookup.specs.Rows.{row_start, row_places}

-- entry j of a row, where it has so many, in what `grid` lists
abbrev pub NumbersInGrid : Type 0
NumbersInGrid = (s : List ℕ) (line row j : ℕ) (none : Entry) → j < length (row_at (rows_at s line) row).entries →
    get_or (entries_of (rows_at s line)) (row_start s line row + j) none ≡ get_or (row_at (rows_at s line) row).entries j none

-- and in what `layout` places
abbrev pub NumbersInLayout : Type 0
NumbersInLayout = (s : List ℕ) (line wrap raw width row j : ℕ) → j < length (row_places s line wrap raw width row) →
    get_or (places_at s line wrap raw width) (row_start s line row + j) (at 0 0) ≡ entry (row_places s line wrap raw width row) j
