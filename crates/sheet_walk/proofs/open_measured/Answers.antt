-- `sheet_walk::open_measured` meets its contract: a sheet has no more lines than the arrays have room for.
use native.Mathlib.Omega.{arith}
use Rattle.sheet_walk.proofs.Opening.{sheet_opened}
use Rattle.sheet_walk.proofs.open_measured.Goals as goal

pub returns : goal.returns
returns c =
    sheet_opened c.measure_sheet.ensures (omega (arith, c.requires.sheet_bound, c.measure_sheet.auto.lines))
    (omega (arith, c.requires.figures_in_bounds, c.measure_sheet.auto.figures))
