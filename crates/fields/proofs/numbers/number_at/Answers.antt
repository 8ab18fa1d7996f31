-- `fields::numbers::number_at` meets its contract: without a stop there is no field, and else what the field before it writes, if it writes a number
-- (`written_open`, `written_ended`).
use mathlib.Core.Path.{sym, ap, ◌∙◌}
use Rattle.fields.specs.inner.Reading.{ended_at}
use Rattle.fields.proofs.Fronts.{written_open, written_ended}
use Rattle.fields.proofs.numbers.number_at.Goals as goal

pub returns-in_err-field : goal.returns-in_err-field
returns-in_err-field c = c.from_residual.ensures ∙ sym (written_open _ _ _ _ c.in_err-field.ensures.field)

pub returns-in_err-value : goal.returns-in_err-value
returns-in_err-value c =
    c.from_residual-in_err-value.ensures
    ∙ sym (written_ended _ _ _ _ c.in_ok-field.ensures.field ∙ ap (ended_at _) (sym c.written_in.ensures ∙ c.in_err-value.was))

pub returns : goal.returns
returns c = sym (written_ended _ _ _ _ c.in_ok-field.ensures.field ∙ ap (ended_at _) (sym c.written_in.ensures ∙ c.in_ok-value.was))
