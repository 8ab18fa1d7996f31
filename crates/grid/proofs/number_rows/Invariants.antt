-- `number_rows` meets its contract. The loop's invariant (`Sofar`): the records written, followed by the definition of the rows that are left, are
-- the definition of all rows, and so are the edges asked and the longest row; the entries that are left stand as they stood. A turn numbers one row by
-- `renumber`: at edges one row's records more are written, else the rows are refused.
use mathlib.Core.Path.{◌≡◌}
use lib.ListN.{length}
use Rattle.records.specs.inner.Figures.{row_ends_of, entry_cells_of, entry_spans_of}
use Rattle.column_edges.specs.inner.Edges.{is_edge}
use Rattle.grid.proofs.NumberLoop.{Sofar}
use Rattle.grid.proofs.number_rows.Given as goal

abbrev pub invariant-loop-row : goal.invariant-loop-row
invariant-loop-row l = Sofar (is_edge l.numbers.words) (entry_spans_of l.initial.entries) (entry_cells_of l.initial.entries) (row_ends_of l.rows) l.initial.entries l.entries l.columns l.start l.row-index × (length l.entries ≡ length l.initial.entries)
