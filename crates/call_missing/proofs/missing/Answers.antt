-- `call_missing::missing` meets its contract: what is found stands in the front of the lent buffers, which are long enough where something is found, and the
-- rest of each is cleared.
use Rattle.std.proofs.Common.{rules}
use native.Mathlib.Omega.{arith}
use Rattle.call_missing.specs.inner.Found.{missed_total, column_total}
use Rattle.call_missing.proofs.Calls.{missing_opened, missing_fit, missing_rooms, missing_answered}
use Rattle.call_missing.proofs.missing.Goals as goal

pub find_missing-found-requires : goal.find_missing-found-requires
find_missing-found-requires c =
    let a = c.args in
    missing_fit a.wrap a.raw a.width _ a.entry.now a.cause.now c.of_missing-asked.ensures.verdict

pub zero_rest-requires : goal.zero_rest-requires
unfolding missed_total
zero_rest-requires c = grind (arith, (missing_rooms c.of_missing-asked.ensures.verdict (missing_opened c.of_missing-asked.ensures.asks c.find_missing-found.ensures)).0, c.find_missing-found.auto.entry)

pub zero_rest-requires-2 : goal.zero_rest-requires-2
unfolding column_total
zero_rest-requires-2 c = grind (arith, (missing_rooms c.of_missing-asked.ensures.verdict (missing_opened c.of_missing-asked.ensures.asks c.find_missing-found.ensures)).1, c.find_missing-found.auto.cause)

pub returns : goal.returns
unfolding missed_total column_total
returns c =
    let f = c.find_missing-found in
    missing_answered c.of_missing-asked.ensures.verdict (missing_opened c.of_missing-asked.ensures.asks c.find_missing-found.ensures) (search rules) (search rules)
    c.find_missing-found.auto.entry c.find_missing-found.auto.cause c.zero_rest.ensures c.zero_rest-2.ensures
