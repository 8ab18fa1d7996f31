-- `text::scan_front` meets its contract: the second pass tells of the front without its leading spaces, which ends where the front ends, and
-- the skipped spaces' 1 makes its size the front's. The size of what is left is at most twice its bytes, so that it fits.
use mathlib.Core.Path.{◌∙◌}
use native.Mathlib.Omega.{arith}
use Rattle.text.proofs.Sizes.{front_done, front_size_le, rest_le}
use Rattle.text.proofs.scan_front.Goals as goal

pub with_lead-requires : goal.with_lead-requires
with_lead-requires c = omega (arith, front_size_le rest_le c.scan_rest-rest.ensures)

pub returns : goal.returns
returns c =
    let done = front_done c.skip_spaces-start.ensures c.scan_rest-rest.ensures in
    record { end = done.end; size = c.with_lead.ensures ∙ done.size }
