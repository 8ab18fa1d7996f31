-- `merge_row` meets its contract. The loop's invariant (`Sofar`): the entries put so far, followed by the definition of the row from this
-- column on with what is left of the cells and of what hangs, are the whole row; they are written into the lent records, and end at the
-- column. A turn puts the next entry: the first hanging one where `due` says so, else the next cell; either is the head of the rest's
-- definition, and ends within position 4,096, since the whole row does.
use Rattle.resolved_rows.specs.inner.Held.{lines_of, spans_of, rowspans_of}
use Rattle.records.specs.inner.Figures.{entry_cells_of, entry_spans_of}
use Rattle.grid_row.specs.inner.Row.{cells_of, hanging}
use Rattle.grid_row.specs.inner.Overhangs.{lefts_of, ats_of, wides_of}
use Rattle.grid_row.proofs.MergeLoop.{Sofar}
use Rattle.grid_row.proofs.merge_row.Given as goal

abbrev pub invariant-loop-n : goal.invariant-loop-n
invariant-loop-n l =
    Sofar (hanging l.left l.at l.wide) (cells_of (lines_of l.cells) (spans_of l.cells) (rowspans_of l.cells))
    (entry_cells_of l.initial.entries) (entry_spans_of l.initial.entries) (lefts_of l.initial.next) (ats_of l.initial.next) (wides_of l.initial.next) (entry_cells_of l.entries) (entry_spans_of l.entries) (lefts_of l.next) (ats_of l.next) (wides_of l.next) l.pos l.n l.k l.i l.h
