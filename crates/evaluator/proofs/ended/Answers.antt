-- `evaluator::ended` meets its contract: the number of open brackets decides first, then the place.
use mathlib.Core.Path.{sym, ap, ◌∙◌}
use borrow.Author.Tests.{eq-eqb, ne_eqb}
use Rattle.std.specs.Prelude.{refl, ◌≡◌, Option, None, Some, Err, ok_or, ℤ}
use Rattle.std.specs.Result.{result_ok}
use Rattle.std.proofs.Common.{rules}
use Rattle.common.specs.declared.Reason.TheVariants.{OutOfBounds}
use Rattle.expression.specs.Answers.{answer_by}
use Rattle.evaluator.specs.inner.Waiting.{place_of, end_at}
use Rattle.common.proofs.Handed.{handed}
use Rattle.evaluator.proofs.ended.Goals as goal

pub returns-then-depth-ne0 : goal.returns-then-depth-ne0
unfolding end_at answer_by
returns-then-depth-ne0 c = rw (ne_eqb _ 0 c.if-depth-ne0.true)

pub returns-in_err-ok_or : goal.returns-in_err-ok_or
unfolding end_at answer_by
returns-in_err-ok_or c =
    let q : c.from_residual.result ≡ Err c.in_err-ok_or.field-0.0 = search rules in
    let h = handed _ _ _ _ c.ok_or.ensures.value c.in_err-ok_or.was in
    rw (eq-eqb _ 0 c.if-depth-ne0.false) (q ∙ ap Err h.1 ∙ ap answer_by (h.0 ∙ c.total.ensures))

pub returns : goal.returns
unfolding end_at answer_by
returns c =
    let e : end_at c.args.depth (place_of c.args.t) ≡ Some c.in_ok-ok_or.field-0 = rw (eq-eqb _ 0 c.if-depth-ne0.false) (sym c.total.ensures ∙ c.ok_or.ensures.ok_part ∙ ap result_ok c.in_ok-ok_or.was) in
    rw e (c.ok_or-2.ensures.value ∙ by_value _)
  where
    by_value : (x : Option ℤ) → ok_or x OutOfBounds ≡ answer_by (Some x)
    by_value None = refl
    by_value (Some x) = refl
