-- `causes::list_missing` meets its contract. The loop's invariant, `Sofar`: what is listed, with what the rest of the entries gives, is what all give.
-- A turn lists an entry or passes it; its columns lie within those that have a cause.
use Rattle.causes.proofs.Listing.{Sofar}
use Rattle.causes.proofs.list_missing.Given as goal

abbrev pub invariant-loop-i : goal.invariant-loop-i
invariant-loop-i l = Sofar l.entries l.cause l.initial.missing l.missing l.n l.i
