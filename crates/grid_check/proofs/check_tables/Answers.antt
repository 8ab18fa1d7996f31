-- `grid_check::check_tables` meets its contract: no table of a sheet within the bound is refused.
use Rattle.grid_bounds.proofs.Sheets.{sheet_sound}
use Rattle.grid_check.proofs.CheckLoop.{fit_accepted}
use Rattle.grid_check.proofs.check_tables.Goals as goal

pub returns-then-sheet_fits : goal.returns-then-sheet_fits
returns-then-sheet_fits c = let p = c.requires in fit_accepted (sheet_sound p.lined.step p.nests (c.sheet_fits.ensures c.if-sheet_fits.true))
