-- `estimates::spread::spread_entries` meets its contract. The loop's invariant, `SpreadLoop`: what is passed, with the entries left, comes to the
-- whole, in the sum and in each column.
use lib.ListN.{length}
use Rattle.estimates.proofs.Spreading.{SpreadLoop}
use Rattle.estimates.proofs.spread.spread_entries.Given as goal

abbrev pub invariant-loop-entry : goal.invariant-loop-entry
invariant-loop-entry l = SpreadLoop l.figures l.entries (length l.fn.columns) l.sum l.entry-index l.columns
