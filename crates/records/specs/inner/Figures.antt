-- One figure of each entry of a grid, and of each row of it.
use Rattle.std.specs.Prelude.{List, map, ℕ}
use Rattle.records.specs.declared.Entry.{Entry}
use Rattle.records.specs.declared.RowEnd.{RowEnd}

-- of entries: the lines of their cells, their first columns and their spans
abbrev pub entry_cell : Entry → ℕ
entry_cell e = e.cell

abbrev pub entry_cells_of : List Entry → List ℕ
entry_cells_of es = map entry_cell es

abbrev pub entry_first : Entry → ℕ
entry_first e = e.first

abbrev pub entry_span : Entry → ℕ
entry_span e = e.span

abbrev pub entry_spans_of : List Entry → List ℕ
entry_spans_of es = map entry_span es

-- of rows: their lines, and how many entries there are up to and including each
abbrev pub row_line : RowEnd → ℕ
row_line r = r.line

abbrev pub row_lines_of : List RowEnd → List ℕ
row_lines_of rs = map row_line rs

abbrev pub row_end : RowEnd → ℕ
row_end r = r.end

abbrev pub row_ends_of : List RowEnd → List ℕ
row_ends_of rs = map row_end rs
