-- `widths::table_width` meets its contract. Down it is the width. Sideways it is the sum and the gaps of the columns that are not 0 wide, no more
-- than all gaps: so it is at most the width, and fits.
use mathlib.Core.Path.{sym}
use native.Mathlib.Omega.{arith}
use Rattle.widths.proofs.Whole.{nonzero_le, width_down, width_side}
use Rattle.widths.proofs.table_width.Goals as goal

pub overflow_add-result : goal.overflow_add-result
overflow_add-result c = omega (arith, nonzero_le c.args.wide.now, c.requires.few)

pub overflow_cast-result : goal.overflow_cast-result
overflow_cast-result c = omega (arith, nonzero_le c.args.wide.now, c.requires.fits c.in-Sideways.is)

pub returns-in-Down : goal.returns-in-Down
returns-in-Down c =
    let a = c.args in
    sym (width_down a.way a.wide.now a.width c.in-Down.is)

pub returns-in-Sideways : goal.returns-in-Sideways
returns-in-Sideways c =
    let a = c.args in
    omega (arith, width_side a.way a.wide.now a.width c.in-Sideways.is)
