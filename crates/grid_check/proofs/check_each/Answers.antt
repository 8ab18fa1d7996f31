-- `grid_check::check_each` meets its contract. The loop's invariant, `Sofar`: the verdict on the lines left is that on all.
use mathlib.Core.Path.{sym, ◌∙◌}
use Prim.Native.Nat.{◌<◌}
use native.Mathlib.Omega.{arith}
use lib.ListN.{length}
use borrow.Author.Tests.{eqb-true, eqb-false}
use Rattle.std.proofs.Common.{rules}
use Rattle.std.proofs.lemmas.Result.{err_from_is_err_and}
use Rattle.grid_check.proofs.CheckLoop.{stop, turn_other, turn_told, turn_fine}
use Rattle.grid_check.proofs.check_each.Goals as goal
use Rattle.grid_check.proofs.check_each.Goals.{then-eq+in_ok-map_err, else-eq}

pub returns-in_err-map_err : goal.returns-in_err-map_err
returns-in_err-map_err c =
    let here : c.loop-t.t-counter < length c.args.lines.now = omega arith in
    let p = err_from_is_err_and c.from_residual.result c.from_residual.ensures.1 in
    rw (p.1, p.2)
    (turn_told c.loop-t.invariant here (eqb-true _ _ (sym c.eq.ensures ∙ c.if-eq.true)) _ c.check_table.ensures
    c.map_err.result _ (λ why y q. search rules) c.map_err.ensures.cases _ c.in_err-map_err.was)

pub loop-t-preserved : goal.loop-t-preserved
loop-t-preserved c =
    let here : c.loop-t.t-counter < length c.args.lines.now = omega arith in
    elim c.if-eq.branch [
      | then-eq+in_ok-map_err w ↦
          turn_fine c.loop-t.invariant here (eqb-true _ _ (sym c.eq.ensures ∙ w.if-eq.true)) _ w.check_table.ensures
          w.map_err.result _ (λ why y q. search rules) w.map_err.ensures.cases _ w.in_ok-map_err.was
      | else-eq w ↦ turn_other c.loop-t.invariant here (eqb-false _ _ (sym c.eq.ensures ∙ w.if-eq.false))
    ]

pub returns : goal.returns
returns c = stop c.loop-t.invariant (omega arith)
