-- `call_window::window` meets its contract: the report stands in the front of the lent buffers, which are long enough where something is found, and the
-- rest of each is cleared.
use Rattle.std.proofs.Common.{rules}
use native.Mathlib.Omega.{arith}
use Rattle.sheet_figures.specs.inner.Opened.{lines_in}
use Rattle.call_window.proofs.Calls.{window_opened, window_fit, window_rooms, window_answered}
use Rattle.call_window.proofs.window.Goals as goal

pub find_window-found-requires : goal.find_window-found-requires
find_window-found-requires c =
    let a = c.args in
    window_fit a.wrap a.raw a.widths.now _ a.way.now a.wide.now a.missing.now c.of_window-asked.ensures.verdict

pub zero_rest-requires : goal.zero_rest-requires
unfolding lines_in
zero_rest-requires c = grind (arith, (window_rooms (window_opened c.of_window-asked.ensures.asks c.find_window-found.ensures) c.of_window-asked.ensures.verdict).0, c.find_window-found.auto.way)

pub zero_rest-requires-2 : goal.zero_rest-requires-2
unfolding lines_in
zero_rest-requires-2 c = grind (arith, (window_rooms (window_opened c.of_window-asked.ensures.asks c.find_window-found.ensures) c.of_window-asked.ensures.verdict).1, c.find_window-found.auto.wide)

pub zero_rest-requires-3 : goal.zero_rest-requires-3
unfolding lines_in
zero_rest-requires-3 c = grind (arith, (window_rooms (window_opened c.of_window-asked.ensures.asks c.find_window-found.ensures) c.of_window-asked.ensures.verdict).2, c.find_window-found.auto.missing)

pub returns : goal.returns
unfolding lines_in
returns c =
    let f = c.find_window-found in
    window_answered (window_opened c.of_window-asked.ensures.asks f.ensures) c.of_window-asked.ensures.verdict (search rules)
    f.auto.way f.auto.wide f.auto.missing c.zero_rest.ensures c.zero_rest-2.ensures c.zero_rest-3.ensures
