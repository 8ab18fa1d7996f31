-- `fields::numbers::signed_at` meets its contract. Without a minus the number is one from 0 on; after a minus it is what `natural_at` reads
-- there, counted down, and no zero (`signed_plain`, `signed_minus`). The difference does not go below 0, since the number is at most the shift.
use borrow.Author.Tests.{eq-eqb, ne_eqb, ltb-true, ltb-false}
use mathlib.Core.Path.{sym, ap, ◌∙◌}
use native.Mathlib.Omega.{arith}
use Rattle.fields.proofs.Signs.{lowered, natural_most, signed_out, signed_plain, signed_minus}
use Rattle.fields.proofs.numbers.signed_at.Goals as goal

pub returns-in_err-first : goal.returns-in_err-first
returns-in_err-first c = c.from_residual.ensures ∙ sym (signed_out _ _ (ltb-false _ _ (sym c.in_err-first.ensures.lookup.0)))

pub returns-then-first-ne45 : goal.returns-then-first-ne45
returns-then-first-ne45 c =
    let first = c.in_ok-first.ensures.lookup in
    c.shifted_at.ensures ∙ sym (signed_plain _ _ (ltb-true _ _ (sym first.0)) first.1 c.if-first-ne45.true)

pub returns-in_err-n : goal.returns-in_err-n
returns-in_err-n c =
    let first = c.in_ok-first.ensures.lookup in
    c.from_residual-in_err-n.ensures
    ∙ sym
    (signed_minus _ _ (ltb-true _ _ (sym first.0)) first.1 c.if-first-ne45.false
    ∙ ap lowered (sym c.natural_at.ensures ∙ c.in_err-n.was))

pub returns-then-n-eq0 : goal.returns-then-n-eq0
returns-then-n-eq0 c =
    let first = c.in_ok-first.ensures.lookup in
    sym
    (signed_minus _ _ (ltb-true _ _ (sym first.0)) first.1 c.if-first-ne45.false
    ∙ ap lowered (sym c.natural_at.ensures ∙ c.in_ok-n.was)
    ∙ rw (eq-eqb _ _ c.if-n-eq0.true))

pub overflow_sub-result : goal.overflow_sub-result
overflow_sub-result c =
    let told = sym c.natural_at.ensures ∙ c.in_ok-n.was in
    omega (arith, natural_most _ _ _ _ told)

pub returns : goal.returns
returns c =
    let first = c.in_ok-first.ensures.lookup in
    sym
    (signed_minus _ _ (ltb-true _ _ (sym first.0)) first.1 c.if-first-ne45.false
    ∙ ap lowered (sym c.natural_at.ensures ∙ c.in_ok-n.was)
    ∙ rw (ne_eqb _ _ c.if-n-eq0.false))
