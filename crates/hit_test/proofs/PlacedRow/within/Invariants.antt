-- `hit_test::PlacedRow::within` meets its contract. The loop's invariant, `Sofar`: the numbers so far, with those of the entries left, are those of the row,
-- and stand at the front of the lent slice. No more are written than entries passed, so that there is a place for each.
use lib.Seq.{slice}
use Rattle.std.specs.Iterator.Adapters.{zip_first}
use Rattle.hit_test.specs.Point.{placed}
use Rattle.hit_test.proofs.Parts.{xs_left, wides_left}
use Rattle.hit_test.proofs.ListLoop.{Sofar}
use Rattle.hit_test.proofs.PlacedRow.within.Given as goal

abbrev pub invariant-loop-i : goal.invariant-loop-i
invariant-loop-i l =
    let row = slice l.self.first l.self.end (placed l.self.x.now l.self.wide.now) in
    Sofar row l.self.first l.self.end l.from l.to l.initial.entry l.entry l.n (zip_first l.i-iterator).start (xs_left l.i-iterator) (wides_left l.i-iterator)
