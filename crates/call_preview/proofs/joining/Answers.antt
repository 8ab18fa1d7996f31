-- `call_preview::joining` meets its contract: the arrays have a place for each entry, and the joining character below the row that was found is the answer.
use Rattle.std.specs.Prelude.{Err}
use Rattle.std.proofs.Common.{rules}
use mathlib.Core.Path.{◌≡◌, ◌∙◌}
use Rattle.call_preview.specs.inner.Said.{joined_by}
use Rattle.row_lookup.proofs.Early.{spot_opened}
use Rattle.call_preview.proofs.Calls.{range_fits, joined_said}
use Rattle.call_preview.proofs.joining.Goals as goal

pub invariant_of-above : goal.invariant_of-above
invariant_of-above c = record { in_slices = (range_fits _ (spot_opened c.of_pointing-asked.ensures.asks c.find.ensures) _ c.in_ok-row.was).here }

pub invariant_of-below : goal.invariant_of-below
invariant_of-below c = record { in_slices = (range_fits _ (spot_opened c.of_pointing-asked.ensures.asks c.find.ensures) _ c.in_ok-row.was).below }

pub returns : goal.returns
unfolding joined_by
returns c =
    let found = spot_opened c.of_pointing-asked.ensures.asks c.find.ensures in
    rw c.joining.ensures (rw c.in_ok-row.was at (joined_said _ found c.args.x c.of_pointing-asked.ensures.verdict))

pub returns-in_err-row : goal.returns-in_err-row
unfolding joined_by
returns-in_err-row c =
    let found = spot_opened c.of_pointing-asked.ensures.asks c.find.ensures in
    let q : c.from_residual.result ≡ Err c.in_err-row.field-0.0 = search rules in
    q ∙ (rw c.in_err-row.was at (joined_said _ found c.args.x c.of_pointing-asked.ensures.verdict))
