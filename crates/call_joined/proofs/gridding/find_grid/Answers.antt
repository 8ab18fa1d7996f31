-- `call_joined::gridding::find_grid` meets its contract: refused for the arguments, it has no figures; else what is found in the sheet.
use Rattle.std.proofs.Common.{rules, ◌≡◌, Err}
use Rattle.call_grid.proofs.Answers.{grid_early, grid_late}
use Rattle.call_joined.proofs.gridding.find_grid.Goals as goal

pub returns-in_err-asked : goal.returns-in_err-asked
returns-in_err-asked c =
    let q : c.from_residual.result ≡ Err c.in_err-asked.field-0.0 = search rules in
    rw (q, c.in_err-asked.was) (grid_early _ _ _ _ _ _ _ _ _)

pub returns : goal.returns
returns c = grid_late c.in_ok-asked.was c.grid_of.ensures
