-- `call_estimates::find_estimates` meets its contract: refused for the arguments, it has no figures; else what is found in the sheet.
use Rattle.std.proofs.Common.{rules, ◌≡◌, Err}
use Rattle.call_estimates.proofs.Answers.{found_early, found_late}
use Rattle.call_estimates.proofs.find_estimates.Goals as goal

pub estimates_within-requires : goal.estimates_within-requires
estimates_within-requires c = c.requires c.in_ok-asked.was

pub returns-in_err-asked : goal.returns-in_err-asked
returns-in_err-asked c =
    let q : c.from_residual.result ≡ Err c.in_err-asked.field-0.0 = search rules in
    rw (q, c.in_err-asked.was) (found_early _ _ _ _ _ _ _)

pub returns : goal.returns
returns c = found_late c.in_ok-asked.was c.estimates_within.ensures
