-- `cutting::Tight::level` meets its contract. The loop's invariant: at lo nothing overflows the room, and at the number after hi something does. A turn
-- halves what lies between them. At the end they are one, which is the level. The measure is the distance between them.
use Prim.Native.Nat.{suc, ◌≤◌, ◌<◌, ◌-◌}
use Rattle.common.specs.Lists.{sum}
use Rattle.cutting.specs.inner.Fill.{filled}
use Rattle.cutting.proofs.Tight.level.Given as goal

abbrev pub invariant-loop-lo : goal.invariant-loop-lo
invariant-loop-lo l = (l.lo ≤ l.hi) × (l.hi ≤ l.self.capacity) × (sum (filled l.self.leasts.now l.self.shares.now l.lo 0) ≤ l.self.capacity) × (l.self.capacity < sum (filled l.self.leasts.now l.self.shares.now (suc l.hi) 0))

abbrev pub decreases-loop-lo : goal.decreases-loop-lo
decreases-loop-lo l = l.hi - l.lo
