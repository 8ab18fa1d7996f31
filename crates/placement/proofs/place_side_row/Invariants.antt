-- `placement::place_side_row` meets its contract. The loop's invariant, `Sides`: the entries before i are written, and those left are placed from
-- `start` on. An entry's columns lie within the row's, since it tiles them, so its part is there and its sum fits; the entry is written as the
-- definition places it, and `start` is where the definition goes on.
use Rattle.placement.proofs.RowLoop.{Sides}
use Rattle.placement.proofs.place_side_row.Given as goal

abbrev pub invariant-loop-i : goal.invariant-loop-i
invariant-loop-i l = Sides l.entries l.ws l.initial.x l.initial.wide l.x l.wide l.start l.i
