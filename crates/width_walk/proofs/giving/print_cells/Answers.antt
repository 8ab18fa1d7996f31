-- `width_walk::giving::print_cells` meets its contract. The loop's invariant (`Sofar`): what is passed is written.
use mathlib.Core.Path.{refl}
use native.Mathlib.Omega.{arith}
use borrow.Author.Tests.{eq-eqb, ne_eqb}
use Rattle.std.proofs.Common.{rules}
use Rattle.width_walk.proofs.CellLoop.{start, pass, stop}
use Rattle.width_walk.proofs.giving.print_cells.Goals as goal

pub loop-e-init : goal.loop-e-init
loop-e-init c = search (rules, start c.requires)

pub loop-e-preserved-in-Some-checked_sub : goal.loop-e-preserved-in-Some-checked_sub
loop-e-preserved-in-Some-checked_sub c =
    let k = c.in-Some-checked_sub.ensures in
    let e = c.in-Some.e.now in
    pass c.loop-e.invariant e c.in-Some.w.now c.in-Some.ensures.steps _ (rw (ne_eqb e.cell 0 (λ z. omega (arith, k.0)), k.1, c.printed.ensures) refl)

pub loop-e-preserved : goal.loop-e-preserved
loop-e-preserved c =
    let e = c.in-Some.e.now in
    pass c.loop-e.invariant e c.in-Some.w.now c.in-Some.ensures.steps _ (rw (eq-eqb e.cell 0 (omega (arith, c.in_default.ensures))) refl)

pub returns : goal.returns
returns c = stop c.loop-e.invariant (grind (arith, c.in-None.ensures.steps, c.loop-e.invariant.as_many))
