-- `cutting::Tight::bound` meets its contract. The loop's invariant: at lo nothing overflows the room, at hi something does. A turn halves what lies
-- between them, or finds that the widths fill the room. Where lo and hi are neighbours the widths at hi are one character more at the most, so those
-- at lo fill it. The measure is the distance between them.
use Prim.Native.Nat.{◌+◌, ◌≤◌, ◌<◌, ◌-◌, ◌*◌}
use Rattle.common.specs.Lists.{sum}
use Rattle.cutting.specs.inner.Fill.{filled}
use Rattle.cutting.proofs.Tight.bound.Given as goal

abbrev pub invariant-loop-lo : goal.invariant-loop-lo
invariant-loop-lo l =
    (l.lo < l.hi)
    × (l.hi ≤ l.self.capacity * 4096 + 4096)
    × (sum (filled l.self.leasts.now l.self.shares.now l.level l.lo) ≤ l.self.capacity)
    × (l.self.capacity < sum (filled l.self.leasts.now l.self.shares.now l.level l.hi))

abbrev pub decreases-loop-lo : goal.decreases-loop-lo
decreases-loop-lo l = l.hi - l.lo
