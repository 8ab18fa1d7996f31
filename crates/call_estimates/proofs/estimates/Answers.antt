-- `call_estimates::estimates` meets its contract: what is found stands in the front of the lent buffers, which are long enough where something is
-- found, and the rest of each is cleared.
use Rattle.std.proofs.Common.{rules, ◌≡◌, Err, sym, ◌∙◌}
use Rattle.sheet_figures.specs.inner.Opened.{lines_in}
use native.Mathlib.Omega.{arith}
use Rattle.call_estimates.proofs.Answers.{figures_fit, capacities, answered}
use Rattle.call_estimates.proofs.estimates.Goals as goal

pub find_estimates-read-requires : goal.find_estimates-read-requires
find_estimates-read-requires c = figures_fit c.args.wrap _ _ _ _ c.of_estimates-asked.ensures

pub zero_rest-requires : goal.zero_rest-requires
unfolding lines_in
zero_rest-requires c = grind (arith, (capacities c.of_estimates-asked.ensures c.find_estimates-read.ensures).0, c.find_estimates-read.auto.size)

pub zero_rest-requires-2 : goal.zero_rest-requires-2
unfolding lines_in
zero_rest-requires-2 c = grind (arith, (capacities c.of_estimates-asked.ensures c.find_estimates-read.ensures).1, c.find_estimates-read.auto.least)

pub zero_rest-requires-3 : goal.zero_rest-requires-3
unfolding lines_in
zero_rest-requires-3 c = grind (arith, (capacities c.of_estimates-asked.ensures c.find_estimates-read.ensures).2, c.find_estimates-read.auto.prefix)

pub overflow_cast-result : goal.overflow_cast-result
unfolding lines_in
overflow_cast-result c = omega (arith, rw c.in_ok-read.was at c.find_estimates-read.ensures.few)

pub returns : goal.returns
unfolding lines_in
returns c =
    answered c.of_estimates-asked.ensures c.find_estimates-read.ensures (sym c.in_ok-read.was) (search rules)
    c.find_estimates-read.auto.size c.find_estimates-read.auto.least c.find_estimates-read.auto.prefix c.zero_rest.ensures c.zero_rest-2.ensures c.zero_rest-3.ensures

pub returns-in_err-read : goal.returns-in_err-read
unfolding lines_in
returns-in_err-read c =
    let q : c.from_residual.result ≡ Err c.in_err-read.field-0.0 = search rules in
    answered c.of_estimates-asked.ensures c.find_estimates-read.ensures (q ∙ sym c.in_err-read.was) (search rules)
    c.find_estimates-read.auto.size c.find_estimates-read.auto.least c.find_estimates-read.auto.prefix c.zero_rest.ensures c.zero_rest-2.ensures c.zero_rest-3.ensures
