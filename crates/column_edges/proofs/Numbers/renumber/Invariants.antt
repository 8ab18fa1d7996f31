-- `renumber` meets its contract. The loop's invariant (`Sofar`): the records written, followed by the definition of what is left from this
-- position on, are the definition of the whole row; the records that are left stand as they stood; the position is an edge and the column its
-- number. A turn looks the entry's end up from there: at an edge its record is written anew, else the row is refused.
use mathlib.Core.Path.{◌≡◌}
use lib.ListN.{length}
use Rattle.records.specs.inner.Figures.{entry_cells_of, entry_spans_of}
use Rattle.column_edges.specs.inner.Edges.{is_edge}
use Rattle.column_edges.proofs.RenumberLoop.{Sofar}
use Rattle.column_edges.proofs.Numbers.renumber.Given as goal

abbrev pub invariant-loop-entry : goal.invariant-loop-entry
invariant-loop-entry l =
    Sofar (is_edge l.self.words) (entry_spans_of l.initial.entries) (entry_cells_of l.initial.entries) l.initial.entries l.entries l.pos l.column l.entry-index
    × (length l.entries ≡ length l.initial.entries)
