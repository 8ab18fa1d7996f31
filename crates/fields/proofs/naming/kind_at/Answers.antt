-- `fields::naming::kind_at` meets its contract: without a field there is no kind, and else the kind that the field names, if it names one
-- (`kind_none`, `kind_some`).
use mathlib.Core.Path.{sym, ap, ◌∙◌}
use Rattle.fields.specs.inner.Reading.{ended_at}
use Rattle.fields.proofs.Fronts.{kind_none, kind_some}
use Rattle.fields.proofs.naming.kind_at.Goals as goal

pub returns-in_err-name : goal.returns-in_err-name
returns-in_err-name c = c.from_residual.ensures ∙ sym (kind_none _ _ c.in_err-name.ensures.field)

pub returns-in_err-value : goal.returns-in_err-value
returns-in_err-value c =
    c.from_residual-in_err-value.ensures
    ∙ sym (kind_some _ _ c.in_ok-name.ensures.field ∙ ap (ended_at _) (sym c.kind_of.ensures ∙ c.in_err-value.was))

pub returns : goal.returns
returns c = sym (kind_some _ _ c.in_ok-name.ensures.field ∙ ap (ended_at _) (sym c.kind_of.ensures ∙ c.in_ok-value.was))
