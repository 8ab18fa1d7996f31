-- `cutting::Tight::bound` meets its contract. The loop's invariant: at lo nothing overflows the room, at hi something does. A turn halves what lies
-- between them, or finds that the widths fill the room. Where lo and hi are neighbours the widths at hi are one character more at the most, so those
-- at lo fill it. The measure is the distance between them.
use mathlib.Core.Path.{◌≡◌, subst}
use Prim.Native.Nat.{ℕ, suc, ◌<◌}
use native.Mathlib.Omega.{arith}
use Rattle.common.specs.Lists.{sum}
use Rattle.cutting.specs.inner.Fill.{filled}
use Rattle.cutting.proofs.Fill.{bound_low, bound_high, bound_found}
use Rattle.cutting.proofs.Tight.bound.Goals as goal

pub loop-lo-init : goal.loop-lo-init
loop-lo-init c =
    let ls = c.args.self.now.leasts.now in
    let ss = c.args.self.now.shares.now in
    let capacity = c.args.self.now.capacity in
    let t = c.args.level in
    rw c.from-full.ensures (
      omega arith,
      omega arith,
      bound_low ls ss capacity c.args.self.now.holds_leasts c.args.self.now.over t c.requires,
      bound_high ls ss capacity c.args.self.now.holds_leasts c.args.self.now.over t c.requires,
    )

pub returns : goal.returns
returns c =
    let l = c.loop-lo in
    let ls = c.args.self.now.leasts.now in
    let ss = c.args.self.now.shares.now in
    let next : l.hi ≡ suc l.lo = omega arith in
    bound_found ls ss c.args.self.now.capacity c.args.self.now.holds_leasts c.args.self.now.over c.args.level l.lo l.invariant.2
    (subst (λ (k : ℕ). c.args.self.now.capacity < sum (filled ls ss c.args.level k)) next l.invariant.3)
