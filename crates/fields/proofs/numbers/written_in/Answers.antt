-- `fields::numbers::written_in` meets its contract: a field is empty, goes on after a 0, or is what its digits write.
use mathlib.Core.Path.{sym, ◌∙◌}
use borrow.Author.Tests.{eqb-true, eqb-false}
use Rattle.fields.proofs.Written.{written_none, written_led, written_digits}
use Rattle.fields.proofs.numbers.written_in.Goals as goal
use Rattle.fields.proofs.numbers.written_in.Goals.{else-led_by_zero-via-then-led_by_zero+else-not-is_empty, else-led_by_zero-via-else-led_by_zero}

pub returns-in_err-first : goal.returns-in_err-first
returns-in_err-first c = c.from_residual.ensures ∙ sym (written_none _ _ c.in_err-first.ensures.cases)

pub returns-then-not-is_empty : goal.returns-then-not-is_empty
returns-then-not-is_empty c =
    sym (written_led _ c.in_ok-first.ensures.cases.0 c.if-led_by_zero.true (eqb-false _ _ (sym c.is_empty.ensures ∙ c.if-not-is_empty.true)))

pub returns : goal.returns
returns c =
    let field = c.in_ok-first.ensures.cases.0 in
    c.digits_in.ensures
    ∙ sym (elim c.else-led_by_zero.branch [
      | else-led_by_zero-via-then-led_by_zero+else-not-is_empty w ↦ written_digits _ field (λ e. eqb-true _ _ (sym w.is_empty.ensures ∙ w.if-not-is_empty.false))
      | else-led_by_zero-via-else-led_by_zero w ↦ written_digits _ field (λ e. absurd (w.if-led_by_zero.false e))
    ])
