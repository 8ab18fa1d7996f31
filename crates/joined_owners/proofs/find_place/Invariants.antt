-- `joined_owners::find_place` meets its contract. The loop's invariant, `Sofar`: what the entry left is of the rows left is what the entry is of all rows.
use Rattle.joined_owners.proofs.Finding.{Sofar}
use Rattle.joined_owners.proofs.find_place.Given as goal

abbrev pub invariant-loop-i : goal.invariant-loop-i
invariant-loop-i l = Sofar l.left.columns l.right.columns l.left.entries.now l.left.rows.now l.right.entries.now l.right.rows.now l.fn.entry l.a l.b l.e l.i
