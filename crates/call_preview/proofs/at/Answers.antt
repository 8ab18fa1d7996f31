-- `call_preview::at` meets its contract: the arrays have a place for each entry, the number of a cell of the row fits, and what lies at the column of the row
-- that was found is the answer.
use Rattle.std.specs.Prelude.{Err}
use Rattle.std.proofs.Common.{rules}
use mathlib.Core.Path.{◌≡◌, sym, ◌∙◌}
use Rattle.call_preview.specs.inner.Said.{pointed_by}
use Rattle.row_lookup.proofs.Early.{spot_opened}
use Rattle.call_preview.proofs.Calls.{range_fits, cell_fits, pointed_said}
use Rattle.call_preview.proofs.at.Goals as goal

pub invariant_of-placed : goal.invariant_of-placed
invariant_of-placed c = record { in_slices = (range_fits _ (spot_opened c.of_pointing-asked.ensures.asks c.find.ensures) _ c.in_ok-row.was).here }

pub narrowed-requires : goal.narrowed-requires
narrowed-requires c =
    let fits = range_fits _ (spot_opened c.of_pointing-asked.ensures.asks c.find.ensures) _ c.in_ok-row.was in
    λ n e. cell_fits c.args.x fits n (sym c.at.ensures ∙ e)

pub returns : goal.returns
unfolding pointed_by
returns c =
    let found = spot_opened c.of_pointing-asked.ensures.asks c.find.ensures in
    rw (c.narrowed.ensures, c.at.ensures) (rw c.in_ok-row.was at (pointed_said _ found c.args.x c.of_pointing-asked.ensures.verdict))

pub returns-in_err-row : goal.returns-in_err-row
unfolding pointed_by
returns-in_err-row c =
    let found = spot_opened c.of_pointing-asked.ensures.asks c.find.ensures in
    let q : c.from_residual.result ≡ Err c.in_err-row.field-0.0 = search rules in
    q ∙ (rw c.in_err-row.was at (pointed_said _ found c.args.x c.of_pointing-asked.ensures.verdict))
