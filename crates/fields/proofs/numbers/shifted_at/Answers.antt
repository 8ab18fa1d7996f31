-- `fields::numbers::shifted_at` meets its contract: what is kept of a number from 0 to the most is shifted up, and a number below the least is
-- left out, by one law (`raised_read`). The sum fits, since a number that was read is at most the most.
use borrow.Author.Tests.{lt-ltb, le-ltb}
use mathlib.Core.Path.{sym, ap, ◌∙◌}
use native.Mathlib.Omega.{arith}
use Rattle.fields.proofs.Signs.{raised, raised_read, natural_most}
use Rattle.fields.proofs.numbers.shifted_at.Goals as goal

pub returns-in_err-n : goal.returns-in_err-n
returns-in_err-n c = c.from_residual.ensures ∙ sym (raised_read _ _ _ _ ∙ ap (raised _) (sym c.natural_at.ensures ∙ c.in_err-n.was))

pub returns-then-n-least : goal.returns-then-n-least
returns-then-n-least c =
    sym
    (raised_read _ _ _ _
    ∙ ap (raised _) (sym c.natural_at.ensures ∙ c.in_ok-n.was)
    ∙ rw (lt-ltb _ _ c.if-n-least.true))

pub overflow_add-result : goal.overflow_add-result
overflow_add-result c =
    let told = sym c.natural_at.ensures ∙ c.in_ok-n.was in
    omega (arith, natural_most _ _ _ _ told, c.requires)

pub returns : goal.returns
returns c =
    sym
    (raised_read _ _ _ _
    ∙ ap (raised _) (sym c.natural_at.ensures ∙ c.in_ok-n.was)
    ∙ rw (le-ltb _ _ c.if-n-least.false))
