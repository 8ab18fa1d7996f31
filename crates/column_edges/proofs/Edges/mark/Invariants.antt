-- `mark` meets its contract. The loop's invariant (`Marked`): the ends that are still to come and the edges of the words make the set
-- that the contract says. A turn moves the first end from the one to the other, by what `insert` ensures.
use Rattle.records.specs.inner.Figures.{entry_spans_of}
use Rattle.column_edges.proofs.MarkLoop.{Marked}
use Rattle.column_edges.proofs.Edges.mark.Given as goal

abbrev pub invariant-loop-e : goal.invariant-loop-e
invariant-loop-e l = Marked (entry_spans_of l.entries) l.initial.self.words l.self.words l.pos l.e-index
