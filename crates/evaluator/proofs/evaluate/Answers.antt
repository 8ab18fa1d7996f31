-- `evaluator::evaluate` meets its contract. The loop's invariant is `Sofar`, whose laws stand in proofs/Sofar.antt: each need is one of them.
use mathlib.Core.Path.{◌≡◌, refl, sym, ap, ◌∙◌}
use Rattle.std.specs.Prelude.{Err}
use Rattle.std.specs.Result.{result_ok}
use Rattle.std.proofs.Common.{rules}
use Rattle.evaluator.specs.inner.Waiting.{waiting_in}
use Rattle.common.proofs.Handed.{handed}
use Rattle.evaluator.proofs.Sofar.{begin, no_opening, opening_told, opens, no_end, not_open, closes, moves, ended_as}
use Rattle.evaluator.proofs.evaluate.Goals.{then-c-eq40+in_ok-outer, else-c-eq40+then-c-eq41+in_ok-x+else-depth-eq0, else-c-eq40+else-c-eq41}
use Rattle.evaluator.proofs.evaluate.Goals as goal

pub loop-c-init : goal.loop-c-init
loop-c-init c = begin c.args.text.now _ refl

pub returns-in_err-outer : goal.returns-in_err-outer
returns-in_err-outer c =
    let q : c.from_residual.result ≡ Err c.in_err-outer.field-0.0 = search rules in
    let h = handed _ _ _ _ c.ok_or.ensures.value c.in_err-outer.was in
    q ∙ ap Err h.1 ∙ no_opening c.loop-c.invariant c.loop-c-test.true c.if-c-eq40.true (ap waiting_in h.0 ∙ c.opening.ensures)

pub bounds-outer-depth : goal.bounds-outer-depth
bounds-outer-depth c =
    let f = sym (c.ok_or.ensures.ok_part ∙ ap result_ok c.in_ok-outer.was) in
    (opening_told _ _ _ (ap waiting_in f ∙ c.opening.ensures)).0

pub returns-in_err-x : goal.returns-in_err-x
returns-in_err-x c =
    let q : c.from_residual-in_err-x.result ≡ Err c.in_err-x.field-0.0 = search rules in
    let h = handed _ _ _ _ c.ok_or-then-c-eq41.ensures.value c.in_err-x.was in
    q ∙ ap Err h.1 ∙ no_end c.loop-c.invariant c.loop-c-test.true c.if-c-eq41.true (h.0 ∙ c.total.ensures)

pub returns-then-depth-eq0 : goal.returns-then-depth-eq0
returns-then-depth-eq0 c = not_open c.loop-c.invariant c.loop-c-test.true c.if-c-eq41.true c.if-depth-eq0.true

pub loop-c-preserved : goal.loop-c-preserved
loop-c-preserved c =
    let s = c.loop-c.invariant in
    let h = c.loop-c-test.true in
    elim c.if-c-eq40.branch [
      | then-c-eq40+in_ok-outer w ↦
          rw (w.outer-is, w.depth-is, w.place-is)
          (opens s w.in_ok-outer.field-0 h w.if-c-eq40.true (ap waiting_in (sym (w.ok_or.ensures.ok_part ∙ ap result_ok w.in_ok-outer.was)) ∙ w.opening.ensures))
      | else-c-eq40+then-c-eq41+in_ok-x+else-depth-eq0 w ↦
          rw (w.outer-is, w.depth-is, w.place-is)
          (closes s w.resumed-place.result w.in_ok-x.x h w.if-c-eq41.true (sym (w.ok_or-then-c-eq41.ensures.ok_part ∙ ap result_ok w.in_ok-x.was) ∙ w.total.ensures) w.if-depth-eq0.false w.resumed-place.ensures.result_value w.resumed-place.ensures.small)
      | else-c-eq40+else-c-eq41 w ↦
          rw (w.outer-is, w.depth-is, w.place-is)
          (moves s w.stepped-place.result h w.if-c-eq40.false w.if-c-eq41.false w.stepped-place.ensures)
    ]

pub returns : goal.returns
returns c = c.ended.ensures ∙ ended_as c.loop-c.invariant c.loop-c-test.false
