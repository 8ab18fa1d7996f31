-- `grid_check::check_table` meets its contract: a table within the bound has no refusal, and of any other the count tells.
use Rattle.grid_check.specs.inner.Checking.{refusal_of}
use Rattle.grid_check.proofs.Reasons.{fits_none}
use Rattle.grid_check.proofs.check_table.Goals as goal

pub returns-then-table_fits : goal.returns-then-table_fits
returns-then-table_fits c = fits_none _ (c.table_fits.ensures c.if-table_fits.true)

pub returns : goal.returns
unfolding refusal_of
returns c = c.count_table.ensures
