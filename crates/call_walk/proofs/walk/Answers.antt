-- `call_walk::walk` meets its contract: what is found stands in the front of the lent buffers, which are long enough where something is found, and the
-- rest of each is cleared.
use Rattle.std.proofs.Common.{rules, ◌≡◌, Err, sym, ◌∙◌}
use native.Mathlib.Omega.{arith}
use Rattle.sheet_figures.specs.inner.Opened.{lines_in}
use Rattle.call_walk.proofs.WalkCall.{walk_opened, walk_fit, walk_rooms, walk_answered}
use Rattle.call_walk.proofs.walk.Goals as goal

pub find_walk-read-requires : goal.find_walk-read-requires
find_walk-read-requires c =
    let a = c.args in
    walk_fit a.wrap a.raw a.width a.overflow _ a.given.now a.wide.now c.of_walk-asked.ensures.verdict

pub zero_rest-requires : goal.zero_rest-requires
unfolding lines_in
zero_rest-requires c = grind (arith, (walk_rooms _ _ _ _ _ _ _ c.of_walk-asked.ensures.verdict (walk_opened c.of_walk-asked.ensures.asks c.find_walk-read.ensures)).0, c.find_walk-read.auto.given)

pub zero_rest-requires-2 : goal.zero_rest-requires-2
unfolding lines_in
zero_rest-requires-2 c = grind (arith, (walk_rooms _ _ _ _ _ _ _ c.of_walk-asked.ensures.verdict (walk_opened c.of_walk-asked.ensures.asks c.find_walk-read.ensures)).1, c.find_walk-read.auto.wide)

pub overflow_cast-result : goal.overflow_cast-result
unfolding lines_in
overflow_cast-result c = omega (arith, rw c.in_ok-read.was at (walk_opened c.of_walk-asked.ensures.asks c.find_walk-read.ensures).few)

pub returns : goal.returns
unfolding lines_in
returns c =
    walk_answered c.of_walk-asked.ensures.verdict (walk_opened c.of_walk-asked.ensures.asks c.find_walk-read.ensures) (sym c.in_ok-read.was) (search rules) c.find_walk-read.auto.given c.find_walk-read.auto.wide c.zero_rest.ensures c.zero_rest-2.ensures

pub returns-in_err-read : goal.returns-in_err-read
unfolding lines_in
returns-in_err-read c =
    let q : c.from_residual.result ≡ Err c.in_err-read.field-0.0 = search rules in
    walk_answered c.of_walk-asked.ensures.verdict (walk_opened c.of_walk-asked.ensures.asks c.find_walk-read.ensures) (q ∙ sym c.in_err-read.was) (search rules) c.find_walk-read.auto.given c.find_walk-read.auto.wide c.zero_rest.ensures c.zero_rest-2.ensures
