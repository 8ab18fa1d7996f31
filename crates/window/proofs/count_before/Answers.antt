-- `window::count_before` meets its contract: the count of no column is 0, and a turn writes the count of one column more.
use native.Mathlib.Omega.{arith}
use Rattle.window.proofs.Counts.{count_start, count_turn, count_stop}
use Rattle.window.proofs.count_before.Goals as goal

pub loop-j-init : goal.loop-j-init
loop-j-init c = count_start c.requires

pub overflow_add-n : goal.overflow_add-n
overflow_add-n c =
    let t = count_turn c.requires c.loop-j.invariant (omega (arith, c.loop-j-test.true)) c.from-n.ensures in
    omega (arith, t.small, c.requires.few)

pub loop-j-preserved : goal.loop-j-preserved
loop-j-preserved c = count_turn c.requires c.loop-j.invariant (omega (arith, c.loop-j-test.true)) c.from-n.ensures

pub returns : goal.returns
returns c = count_stop c.requires c.loop-j.invariant (omega (arith, c.loop-j-test.false))
