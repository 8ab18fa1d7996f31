-- `grid_plain::try_plain` meets its contract. The loop's invariant, `TableLoop`: the rows so far are plain, with what the lines still to come hold they are the
-- table's as they are written, and their entries and records stand in the slices. A line of the table that the loop meets is a row or a body, since
-- `try_row` passes what is deeper. The measure is the number of lines left.
use Prim.Native.Nat.{◌-◌}
use lib.ListN.{length}
use Rattle.grid_plain.proofs.TableLoop.{TableLoop}
use Rattle.grid_plain.proofs.try_plain.Given as goal

abbrev pub invariant-loop-line : goal.invariant-loop-line
invariant-loop-line l =
    TableLoop l.lines l.at l.initial.entries l.entries l.initial.rows l.rows l.n l.r l.columns l.i

abbrev pub decreases-loop-line : goal.decreases-loop-line
decreases-loop-line l = length l.lines - l.i
