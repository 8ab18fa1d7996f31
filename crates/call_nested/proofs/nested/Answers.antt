-- `call_nested::nested` meets its contract: what is found stands in the front of the lent buffers, which are long enough where something is found, and the
-- rest of each is cleared.
use Rattle.std.proofs.Common.{rules}
use native.Mathlib.Omega.{arith}
use Rattle.call_nested.specs.inner.Found.{columns_in, entries_in}
use Rattle.call_nested.proofs.NestCall.{nest_opened, nest_fit, nest_rooms, nest_answered}
use Rattle.call_nested.proofs.nested.Goals as goal

pub find_nested-found-requires : goal.find_nested-found-requires
find_nested-found-requires c =
    let a = c.args in
    nest_fit a.wrap a.raw a.width a.overflow _ a.column.now a.x.now a.wide.now c.of_nested-asked.ensures.verdict

pub zero_rest-requires : goal.zero_rest-requires
unfolding columns_in
zero_rest-requires c = grind (arith, (nest_rooms _ _ _ _ _ _ _ _ c.of_nested-asked.ensures.verdict (nest_opened c.of_nested-asked.ensures.asks c.find_nested-found.ensures)).0, c.find_nested-found.auto.column)

pub zero_rest-requires-2 : goal.zero_rest-requires-2
unfolding entries_in
zero_rest-requires-2 c = grind (arith, (nest_rooms _ _ _ _ _ _ _ _ c.of_nested-asked.ensures.verdict (nest_opened c.of_nested-asked.ensures.asks c.find_nested-found.ensures)).1, c.find_nested-found.auto.x)

pub zero_rest-requires-3 : goal.zero_rest-requires-3
unfolding entries_in
zero_rest-requires-3 c = grind (arith, (nest_rooms _ _ _ _ _ _ _ _ c.of_nested-asked.ensures.verdict (nest_opened c.of_nested-asked.ensures.asks c.find_nested-found.ensures)).2, c.find_nested-found.auto.wide)

pub returns : goal.returns
unfolding columns_in entries_in
returns c =
    nest_answered c.of_nested-asked.ensures.verdict (nest_opened c.of_nested-asked.ensures.asks c.find_nested-found.ensures) (search rules) (search rules) c.find_nested-found.auto.column c.find_nested-found.auto.x c.find_nested-found.auto.wide
    c.zero_rest.ensures c.zero_rest-2.ensures c.zero_rest-3.ensures
