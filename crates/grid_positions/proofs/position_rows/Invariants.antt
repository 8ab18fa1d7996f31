-- `grid_positions::position_rows` merges the rows. The loop keeps: the rows done, with the rows of what is left of the table and of what
-- hangs now, are the table's rows, of which none ends past 4,096 and whose entries have places; those of the rows done are written, and the records of
-- the rows that are left say where their cells end. A turn merges the next row.
use mathlib.Core.List.{List}
use Prim.Native.Nat.{ℕ}
use Rattle.resolved_rows.specs.inner.Held.{lines_of, spans_of, rowspans_of}
use Rattle.records.specs.inner.Figures.{row_ends_of, entry_cells_of, entry_spans_of}
use Rattle.grid_row.specs.inner.Overhangs.{lefts_of, ats_of, wides_of, lefts_in, ats_in, wides_in}
use Rattle.grid_positions.proofs.RowsLoop.{Bounds, Sofar, Held}
use Rattle.grid_positions.proofs.position_rows.Given as goal

abbrev pub invariant-loop-row : goal.invariant-loop-row
invariant-loop-row l =
    Bounds (lines_of l.cells) (row_ends_of l.initial.rows) (entry_cells_of l.initial.entries) (entry_spans_of l.initial.entries) (row_ends_of l.initial.rows) (lefts_in l.initial.overhang) (ats_in l.initial.overhang) (wides_in l.initial.overhang) (lefts_of l.initial.next) (ats_of l.initial.next) (wides_of l.initial.next)
    (entry_cells_of l.entries) (entry_spans_of l.entries) (row_ends_of l.rows) (lefts_in l.overhang) (ats_in l.overhang) (wides_in l.overhang) (lefts_of l.next) (ats_of l.next) (wides_of l.next) l.first l.row-index l.n l.k
    × ((row_lines : List ℕ) → Sofar (lines_of l.cells) (spans_of l.cells) (rowspans_of l.cells) (row_ends_of l.initial.rows) row_lines (entry_cells_of l.initial.entries) (entry_spans_of l.initial.entries) (row_ends_of l.initial.rows)
    (entry_cells_of l.entries) (entry_spans_of l.entries) (row_ends_of l.rows) (lefts_in l.overhang) (ats_in l.overhang) (wides_in l.overhang) l.first l.row-index l.n l.k)
    × Held l.initial.rows l.initial.entries l.initial.overhang l.initial.next l.rows l.entries l.overhang l.next
