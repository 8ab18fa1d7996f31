-- `hit_test::PlacedRow::at` meets its contract. The loop's invariant, `Sofar`: what lies ahead of entry i, once it is known whether a printed cell has ended
-- at the column, is what the row has there.
use lib.Seq.{slice}
use Rattle.std.specs.Iterator.Adapters.{zip_first}
use Rattle.hit_test.specs.Point.{placed, pointed}
use Rattle.hit_test.proofs.Parts.{xs_left, wides_left}
use Rattle.hit_test.proofs.PointLoop.{Sofar}
use Rattle.hit_test.proofs.PlacedRow.at.Given as goal

abbrev pub invariant-loop-i : goal.invariant-loop-i
invariant-loop-i l =
    let all = pointed l.self.first l.column (slice l.self.first l.self.end (placed l.self.x.now l.self.wide.now)) in
    Sofar all l.self.end l.column l.ended (zip_first l.i-iterator).start (xs_left l.i-iterator) (wides_left l.i-iterator)
