-- `resolved_rows::list_rows` meets its contract. The loop's invariant, `Listing`: the rows of the bodies that are done, resolved, and the rows of the
-- last body, as they are written, stand in the records; with what the lines from the next place on add to them they are the table's rows. A body
-- line resolves the last body, a row line adds a row to it, a cell line a cell to its last row, and a deeper line nothing. A cell line
-- finds a row, since a line is at most one deeper than the line before it. What the walk has left are the lines from the next place on.
use mathlib.Core.Path.{◌≡◌}
use lib.ListN.{drop}
use Rattle.std.specs.Iterator.Adapters.{zip_first, zip_second}
use Rattle.std.specs.Slice.Iter.{iter_rest}
use Rattle.resolved_rows.specs.inner.Held.{lines_of, spans_of, rowspans_of}
use Rattle.records.specs.inner.Figures.{row_lines_of, row_ends_of}
use Rattle.resolved_rows.proofs.Listing.{Listing}
use Rattle.resolved_rows.proofs.list_rows.Given as goal

abbrev pub invariant-loop-i : goal.invariant-loop-i
invariant-loop-i l =
    let i = (zip_first l.i-iterator).start in
    Listing l.lines l.at (lines_of l.initial.cells) (spans_of l.initial.cells) (rowspans_of l.initial.cells) (row_lines_of l.initial.rows) (row_ends_of l.initial.rows) (lines_of l.cells) (spans_of l.cells) (rowspans_of l.cells) (row_lines_of l.rows) (row_ends_of l.rows) l.n l.r l.first_cell l.first_row i
    × (iter_rest (zip_second l.i-iterator) ≡ drop i l.lines)
