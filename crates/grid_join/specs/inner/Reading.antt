-- A grid read back from the records of its entries and rows: a filler's owner is not among them.
use Rattle.std.specs.Prelude.{◌≡◌, cond, List, [], ◌∷◌, map, ℕ, ◌+◌, ◌-◌, ◌≤◌, eqb, ltb, length, get_or, take, drop}
use Rattle.common.specs.Limits.{max_position}
use Rattle.records.specs.inner.NodeRecord.{no_row}
use Rattle.records.specs.declared.Entry as records
use Rattle.records.specs.declared.RowEnd.{RowEnd}
use Rattle.grid.specs.Grid.{Entry, entry, GridRow}
use Rattle.grid.specs.Judging.{shown}
use Rattle.grid_join.specs.Joined.{row_with}

-- an entry by its record: a filler where the line is 0
abbrev pub read : records.Entry → Entry
read e = entry e.cell (eqb e.cell 0) e.first e.span

-- the entries of a row of records
abbrev pub row_in : List records.Entry → List Entry
row_in es = map read es

-- the rows by their records, where a entries stand before and these follow
unfoldable pub read_rows : ℕ → List RowEnd → List records.Entry → List GridRow
read_rows a [] es = []
read_rows a (r ∷ rs) es = row_with r.line (row_in (take (r.end - a) es)) ∷ read_rows r.end rs (drop (r.end - a) es)

abbrev pub grid_in : List RowEnd → List records.Entry → List GridRow
grid_in rs es = read_rows 0 rs es

-- the rows' ends ascend from a on, and the last is the number of entries
unfoldable pub Ends : ℕ → List RowEnd → ℕ → Type 0
Ends a [] n = a ≡ n
Ends a (r ∷ rs) n = (a ≤ r.end) × Ends r.end rs n

-- an entry ends within the columns that a grid can have
abbrev pub Narrow : records.Entry → Type 0
Narrow e = e.first + e.span ≤ max_position

-- an entry and a row as they are read back from their records
abbrev pub reread : Entry → Entry
reread e = read (shown e)

abbrev pub reread_row : GridRow → GridRow
reread_row r = row_with r.line (map reread r.entries)

-- where row i ends; a grid has no row any more: where the last ended
abbrev pub end_at : List RowEnd → ℕ → ℕ → ℕ
end_at rs i from = cond (ltb i (length rs)) (get_or rs i no_row).end from

-- the line of row i: the left row's, or the right's where there is no left row
abbrev pub line_at : List RowEnd → List RowEnd → ℕ → ℕ
line_at ls rs i = cond (ltb i (length ls)) (get_or ls i no_row).line (get_or rs i no_row).line
