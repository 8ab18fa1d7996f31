-- A grid that is found in a sheet, where the checks pass or one of them refuses.
use Rattle.answers.specs.Answers.{grid_with}
use Rattle.answers.specs.declared.Grid.{Grid}
use Rattle.common.specs.declared.Refusal.{Refusal}
use Rattle.std.specs.Prelude.{◌≡◌, List, map, ℕ, ◌≤◌, length, take, Err, Result, Ok}
use Rattle.common.specs.Limits.{max_lines, max_entries}
use Rattle.common.specs.Refusals.{Check, first_answer, if_passes}
use Rattle.grid.specs.Grid.{GridRow, shown_line, entries_of, row_ends, first_of, span_of, row_line}
use Rattle.sheet_figures.specs.Figures.{rows_at, columns_at}

-- how many entries and rows there are
unfoldable pub entries_in : Result Grid Refusal → ℕ
entries_in (Ok t) = t.entries
entries_in (Err why) = 0

unfoldable pub rows_in : Result Grid Refusal → ℕ
rows_in (Ok t) = t.rows
rows_in (Err why) = 0

-- the lent buffers have the places of a table's entries, and of its rows
pub record GridCapacity (cell first' span row end : List ℕ) : Type 0 where
  pub cell_capacity : max_entries ≤ length cell
  pub first_capacity : max_entries ≤ length first'
  pub span_capacity : max_entries ≤ length span
  pub row_capacity : max_lines ≤ length row
  pub end_capacity : max_lines ≤ length end

-- a grid of so many columns, or the first refusal; its entries and rows stand in the first places
pub record GridOf (cs : List Check) (g : List GridRow) (columns : ℕ) (r : Result Grid Refusal) (cell first' span row end : List ℕ) : Type 0 where
  pub answer : r ≡ first_answer Err (Ok (grid_with (length g) (length (entries_of g)) columns)) cs
  pub few_entries : entries_in r ≤ max_entries
  pub few_rows : rows_in r ≤ max_lines
  pub cells : take (entries_in r) cell ≡ if_passes cs (map shown_line (entries_of g))
  pub firsts : take (entries_in r) first' ≡ if_passes cs (map first_of (entries_of g))
  pub spans : take (entries_in r) span ≡ if_passes cs (map span_of (entries_of g))
  pub row_lines : take (rows_in r) row ≡ if_passes cs (map row_line g)
  pub row_ends_are : take (rows_in r) end ≡ if_passes cs (row_ends 0 g)

-- the grid of the table in a line
abbrev pub GridFound : List Check → (s : List ℕ) (line : ℕ) → Result Grid Refusal → (cell first' span row end : List ℕ) → Type 0
GridFound cs s line = GridOf cs (rows_at s line) (columns_at s line)
