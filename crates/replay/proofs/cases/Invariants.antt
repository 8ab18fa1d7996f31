-- `replay::cases` is safe and ends. The invariant: there are no more cases than bytes, so that their number fits. A case and its frame have a
-- byte, so what is left of the input falls.
use Prim.Native.Nat.{◌+◌, ◌≤◌}
use lib.ListN.{length}
use Rattle.replay.proofs.cases.Given as goal

abbrev pub invariant-loop-case : goal.invariant-loop-case
invariant-loop-case l = l.number + length l.rest ≤ 1048577

abbrev pub decreases-loop-case : goal.decreases-loop-case
decreases-loop-case l = length l.rest
