-- `cutting::cut_one_by_one` meets its contract. The loop's invariant: cutting what stands there now ends where cutting the widths at the start ends,
-- and what is left of the sum is theirs. In a turn one is taken from the column picked, which is one step of the cutting; after the turns the
-- cutting is over.
use Prim.Native.Nat.{◌+◌, ◌-◌}
use native.Mathlib.Omega.{arith}
use Rattle.cutting.proofs.LoopFacts.{Turn, loop_end, loop_turn}
use Rattle.cutting.proofs.cut_one_by_one.Goals as goal
use Rattle.cutting.proofs.cut_one_by_one.Goals.{After-pick_column-p}

-- what a turn has of the column picked
turn : (c : After-pick_column-p) → let h = c.loop in
    let a = c.args in
    Turn a.leasts.now a.wide.now a.capacity h.wide (a.capacity + a.all - h.counter) c.pick_column-p.result
turn c =
    let h = c.loop in
    loop_turn c.args.leasts.now c.args.wide.now c.args.capacity h.wide (c.args.capacity + c.args.all - h.counter) h.invariant c.pick_column-p.result
    c.pick_column-p.ensures c.requires.holds_leasts.enough (omega arith)

pub offset_bounds-wide-p : goal.offset_bounds-wide-p
offset_bounds-wide-p c = omega (arith, (turn (goal.at.offset_bounds-wide-p c).After-pick_column-p).1)

pub bounds-wide-p : goal.bounds-wide-p
bounds-wide-p c = (turn (goal.at.bounds-wide-p c).After-pick_column-p).1

pub overflow_sub-wide : goal.overflow_sub-wide
overflow_sub-wide c = (turn (goal.at.overflow_sub-wide c).After-pick_column-p).0

pub bounds-wide-p-in-loop : goal.bounds-wide-p-in-loop
bounds-wide-p-in-loop c = (turn (goal.at.bounds-wide-p-in-loop c).After-pick_column-p).1

pub loop-preserved : goal.loop-preserved
loop-preserved c =
    let k = (turn (goal.at.loop-preserved c).After-pick_column-p).2 in
    (k.0, omega (arith, k.1), k.2, k.3)

pub returns : goal.returns
returns c =
    let h = c.loop in
    let a = c.args in
    loop_end a.leasts.now a.wide.now a.capacity h.wide (a.capacity + a.all - h.counter) h.invariant (omega arith)
