-- `line::rest_at` meets its contract: the three fields are 0 (`ZerosAtPost`), or their readers are called in the definition's order, each from where
-- the one before ended, and the first that finds nothing ends the reading.
use mathlib.Core.Path.{sym, ◌∙◌}
use Rattle.line.specs.inner.Reading.{rest_read}
use Rattle.line.proofs.rest_at.Goals as goal

pub returns-then-zeros_at : goal.returns-then-zeros_at
unfolding rest_read
returns-then-zeros_at c = let z = c.zeros_at.ensures c.if-zeros_at.true in rw (z.number, z.cols, z.rows)

pub returns-in_err-number : goal.returns-in_err-number
unfolding rest_read
returns-in_err-number c = rw (c.from_residual.ensures, sym c.n_at.ensures ∙ c.in_err-number.was)

pub returns-in_err-cols : goal.returns-in_err-cols
unfolding rest_read
returns-in_err-cols c =
    rw (
      c.from_residual-in_err-cols.ensures,
      sym c.n_at.ensures ∙ c.in_ok-number.was,
      sym c.span_limit-most_cols.ensures,
      sym c.natural_at.ensures ∙ c.in_err-cols.was,
    )

pub returns-in_err-rows : goal.returns-in_err-rows
unfolding rest_read
returns-in_err-rows c =
    rw (
      c.from_residual-in_err-rows.ensures,
      sym c.n_at.ensures ∙ c.in_ok-number.was,
      sym c.span_limit-most_cols.ensures,
      sym c.natural_at.ensures ∙ c.in_ok-cols.was,
      sym c.span_limit-most_rows.ensures,
      sym c.natural_at-2.ensures ∙ c.in_err-rows.was,
    )

pub returns : goal.returns
unfolding rest_read
returns c =
    rw (
      sym c.n_at.ensures ∙ c.in_ok-number.was,
      sym c.span_limit-most_cols.ensures,
      sym c.natural_at.ensures ∙ c.in_ok-cols.was,
      sym c.span_limit-most_rows.ensures,
      sym c.natural_at-2.ensures ∙ c.in_ok-rows.was,
    )
