-- `line::fields_at` meets its contract: the readers are called in the definition's order, each from where the one before ended, and the first
-- that finds nothing ends the reading.
use mathlib.Core.Path.{sym, ◌∙◌}
use Rattle.line.specs.inner.Reading.{fields_read}
use Rattle.line.proofs.fields_at.Goals as goal

pub returns-in_err-depth : goal.returns-in_err-depth
unfolding fields_read
returns-in_err-depth c = rw (c.from_residual.ensures, sym c.natural_at.ensures ∙ c.in_err-depth.was)

pub returns-in_err-kind : goal.returns-in_err-kind
unfolding fields_read
returns-in_err-kind c =
    rw (c.from_residual-in_err-kind.ensures, sym c.natural_at.ensures ∙ c.in_ok-depth.was, sym c.kind_at.ensures ∙ c.in_err-kind.was)

pub returns : goal.returns
unfolding fields_read
returns c = rw (sym c.natural_at.ensures ∙ c.in_ok-depth.was, sym c.kind_at.ensures ∙ c.in_ok-kind.was) c.rest_at.ensures
