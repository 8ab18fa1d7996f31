-- `mark_rows` meets its contract. The loop's invariant (`RowsMarked`): the ends of the rows that are still to come and the edges of the
-- words make the set that the contract says, those rows fit, and no edge lies above `top`. A turn moves one row's ends, by what `mark`
-- ensures, none of which lies past the row's end. After the loop `count_words` gives each word that has an edge its count.
use Rattle.records.specs.inner.Figures.{row_ends_of, entry_spans_of}
use Rattle.column_edges.proofs.MarkLoop.{RowsMarked}
use Rattle.column_edges.proofs.mark_rows.Given as goal

abbrev pub invariant-loop-row : goal.invariant-loop-row
invariant-loop-row l = RowsMarked (entry_spans_of l.entries) (row_ends_of l.rows) l.initial.edges.words l.edges.words l.top l.start l.row-index
