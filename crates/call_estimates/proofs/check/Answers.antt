-- `call_estimates::check` meets its contract: what opening the sheet answers, without the number of its lines.
use Rattle.std.proofs.Common.{rules, ◌≡◌, Err, sym, ap, ◌∙◌}
use Rattle.call_estimates.proofs.Answers.{verdict_in, checked}
use Rattle.call_estimates.proofs.check.Goals as goal

pub returns : goal.returns
returns c = sym (ap verdict_in c.in_ok-check_within.was) ∙ ap verdict_in c.check_within.ensures ∙ checked _

pub returns-in_err-check_within : goal.returns-in_err-check_within
returns-in_err-check_within c =
    let q : c.from_residual.result ≡ Err c.in_err-check_within.field-0.0 = search rules in
    q ∙ sym (ap verdict_in c.in_err-check_within.was) ∙ ap verdict_in c.check_within.ensures ∙ checked _
