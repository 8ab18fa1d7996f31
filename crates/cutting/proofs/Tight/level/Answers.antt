-- `cutting::Tight::level` meets its contract. The loop's invariant: at lo nothing overflows the room, and at the number after hi something does. A turn
-- halves what lies between them. At the end they are one, which is the level. The measure is the distance between them.
use mathlib.Core.Path.{◌≡◌, subst}
use Prim.Native.Nat.{ℕ, suc, ◌<◌}
use native.Mathlib.Omega.{arith}
use Rattle.common.specs.Lists.{sum}
use Rattle.cutting.specs.inner.Fill.{filled}
use Rattle.cutting.proofs.Fill.{level_low, level_high, level_found}
use Rattle.cutting.proofs.Tight.level.Goals as goal

pub loop-lo-init : goal.loop-lo-init
loop-lo-init c =
    let ls = c.args.self.now.leasts.now in
    let ss = c.args.self.now.shares.now in
    (omega arith, omega arith, level_low ls ss c.args.self.now.capacity c.args.self.now.holds_leasts c.args.self.now.over, level_high ls ss c.args.self.now.capacity c.args.self.now.holds_leasts c.args.self.now.over)

pub returns : goal.returns
returns c =
    let l = c.loop-lo in
    let ls = c.args.self.now.leasts.now in
    let ss = c.args.self.now.shares.now in
    let same : l.hi ≡ l.lo = omega arith in
    level_found ls ss c.args.self.now.capacity c.args.self.now.holds_leasts c.args.self.now.over l.lo l.invariant.2
    (subst (λ (k : ℕ). c.args.self.now.capacity < sum (filled ls ss (suc k) 0)) same l.invariant.3)
