-- Cells as records of three numbers each in one slice, and one figure of each.
use Rattle.std.specs.Prelude.{List, [], map, ℕ, get_or}
use Rattle.records.specs.inner.Records.{records_of}
use Rattle.resolved_rows.specs.declared.Cell.{Cell}

abbrev pub cell_by : List ℕ → Cell
cell_by r = record { line = get_or r 0 0; span = get_or r 1 0; rows = get_or r 2 0 }

abbrev pub no_cell : Cell
no_cell = cell_by []

abbrev pub cells_of : List ℕ → List Cell
cells_of xs = records_of 3 cell_by xs

-- one figure of each record of w numbers
unfoldable pub figures : {A : Type 0} → ℕ → (List ℕ → A) → (A → ℕ) → List ℕ → List ℕ
figures w make figure xs = map figure (records_of w make xs)

-- the lines of cells, the columns that they span, and the rows that they take
abbrev pub held_line : Cell → ℕ
held_line c = c.line

abbrev pub lines_of : List ℕ → List ℕ
lines_of xs = figures 3 cell_by held_line xs

abbrev pub held_span : Cell → ℕ
held_span c = c.span

abbrev pub spans_of : List ℕ → List ℕ
spans_of xs = figures 3 cell_by held_span xs

abbrev pub held_rows : Cell → ℕ
held_rows c = c.rows

abbrev pub rowspans_of : List ℕ → List ℕ
rowspans_of xs = figures 3 cell_by held_rows xs
