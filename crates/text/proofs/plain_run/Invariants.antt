-- `text::plain_run` meets its contract. The invariant (`Running`): what was walked holds characters and spaces alone, and the sum and the gap are theirs. The loop goes on
-- only after eight of them; the measure is what is left of the length.
use Prim.Native.Nat.{◌-◌}
use lib.ListN.{length}
use Rattle.text.proofs.Runs.{Running}
use Rattle.text.proofs.plain_run.Given as goal

abbrev pub invariant-loop-i : goal.invariant-loop-i
invariant-loop-i l = Running l.text l.from l.sum l.gap l.i

abbrev pub decreases-loop-i : goal.decreases-loop-i
decreases-loop-i l = length l.text - l.i
