-- `fields::numbers::natural_at` meets its contract: there is a single digit (`natural_lone`), or what is written up to the space
-- (`natural_written_at`).
use mathlib.Core.Path.{sym, ◌∙◌}
use native.Mathlib.Omega.{arith}
use borrow.Author.Tests.{le-leb, lt-leb}
use Rattle.fields.proofs.Digits.{natural_lone}
use Rattle.fields.proofs.Fronts.{natural_written_at}
use Rattle.fields.proofs.numbers.natural_at.Goals as goal

pub returns-in_default : goal.returns-in_default
returns-in_default c = c.number_at.ensures ∙ sym (natural_written_at _ _ _)

pub returns-then-value-most : goal.returns-then-value-most
returns-then-value-most c =
    let lone = c.in-Some-48-to-57 in
    sym
    (natural_lone _ _ _ lone.ensures.lookup.0.2 lone.len_at_least (omega arith) (omega arith) (omega arith) c.from-value.ensures
    ∙ rw (lt-leb _ _ c.if-value-most.true))

pub returns : goal.returns
returns c =
    let lone = c.in-Some-48-to-57 in
    sym
    (natural_lone _ _ _ lone.ensures.lookup.0.2 lone.len_at_least (omega arith) (omega arith) (omega arith) c.from-value.ensures
    ∙ rw (le-leb _ _ c.if-value-most.false))
