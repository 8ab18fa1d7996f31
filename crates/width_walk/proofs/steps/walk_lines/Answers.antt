-- `width_walk::steps::walk_lines` meets its contract. The loop's invariant (`Sofar`): the lines that are passed have their widths, and the slices of widths their lengths.
use mathlib.Core.Path.{refl, ◌∙◌}
use native.Mathlib.Omega.{arith}
use Rattle.width_walk.proofs.Merely.{walkable}
use Rattle.width_walk.proofs.Capacities.{line_here, walk_capacity, started, walked_all, hand_ready, walked_refused, walked_on}
use Rattle.width_walk.proofs.steps.walk_lines.Goals as goal

pub loop-i-init : goal.loop-i-init
loop-i-init c =
    let a = c.args in
    (started a.m.lines.now a.m.figures.now a.walk.now (walkable c.args.m.walkable) c.requires.cleared a.raw a.width a.overflow c.requires.width_bound, refl, refl)

pub step-own-requires : goal.step-own-requires
step-own-requires c =
    let a = c.args in
    let l = c.loop-i in
    line_here a.m.lines.now a.m.figures.now a.walk.now (walkable c.args.m.walkable) c.requires.cleared l.walk l.passed l.invariant.1 l.invariant.2 c.loop-i-test.true

pub returns-then-ends : goal.returns-then-ends
returns-then-ends c =
    let a = c.args in
    let l = c.loop-i in
    rw c.at.ensures
    (walked_refused a.m.lines.now a.m.figures.now a.walk.now (walkable c.args.m.walkable) c.requires.cleared a.raw a.width a.overflow c.requires.width_bound l.walk l.passed l.invariant.1 l.invariant.2 l.i l.invariant.0 c.loop-i-test.true _ _ _ c.step-own.ensures _ c.ends.ensures c.if-ends.true _)

pub hand_out-requires : goal.hand_out-requires
hand_out-requires c =
    let a = c.args in
    let l = c.loop-i in
    record {
      hand_ready = hand_ready a.m.lines.now a.m.figures.now a.walk.now (walkable c.args.m.walkable) c.requires.cleared a.raw a.width a.overflow c.requires.width_bound l.walk l.passed l.invariant.1 l.invariant.2 l.i l.invariant.0 c.loop-i-test.true _ _ _ c.step-own.ensures;
      lines_in_bounds = walk_capacity a.m.lines.now a.m.figures.now a.walk.now (walkable c.args.m.walkable) c.requires.cleared c.step-own.new.walk (c.step-own.auto.walk ∙ l.invariant.1);
    }

pub loop-i-preserved : goal.loop-i-preserved
loop-i-preserved c =
    let a = c.args in
    let l = c.loop-i in (
      walked_on a.m.lines.now a.m.figures.now a.walk.now (walkable c.args.m.walkable) c.requires.cleared a.raw a.width a.overflow c.requires.width_bound l.walk l.passed l.invariant.1 l.invariant.2 l.i l.invariant.0 c.loop-i-test.true _ _ _ c.step-own.ensures _ c.ends.ensures c.if-ends.false _ c.hand_out.ensures,
      c.hand_out.auto.walk ∙ c.step-own.auto.walk ∙ l.invariant.1,
      c.step-own.auto.passed ∙ l.invariant.2,
    )

pub returns : goal.returns
returns c =
    let a = c.args in
    let l = c.loop-i in
    walked_all a.m.lines.now a.m.figures.now a.walk.now (walkable c.args.m.walkable) c.requires.cleared a.raw a.width a.overflow c.requires.width_bound l.walk l.passed l.invariant.1 l.invariant.2 l.i l.invariant.0 (omega (arith, c.loop-i-test.false))
