-- `call_joined::gridding::joined_grid` meets its contract: what is found stands in the front of the lent buffers, which are long enough where something is
-- found, and the rest of each is cleared.
use Rattle.std.proofs.Common.{rules}
use native.Mathlib.Omega.{arith}
use Rattle.call_grid.specs.inner.Found.{entries_in, rows_in}
use Rattle.call_grid.proofs.Answers.{grid_fit, grid_rooms, grid_told, grid_left}
use Rattle.call_joined.specs.Joined.{joined_grid_of}
use Rattle.call_joined.proofs.gridding.joined_grid.Goals as goal

pub find_grid-found-requires : goal.find_grid-found-requires
find_grid-found-requires c = grid_fit _ _ _ _ _ _ c.of_grid-asked.ensures

pub zero_rest-requires : goal.zero_rest-requires
unfolding entries_in
zero_rest-requires c = grind (arith, (grid_rooms c.of_grid-asked.ensures c.find_grid-found.ensures).0.0, c.find_grid-found.auto.cell)

pub zero_rest-requires-2 : goal.zero_rest-requires-2
unfolding entries_in
zero_rest-requires-2 c = grind (arith, (grid_rooms c.of_grid-asked.ensures c.find_grid-found.ensures).0.1, c.find_grid-found.auto.first)

pub zero_rest-requires-3 : goal.zero_rest-requires-3
unfolding entries_in
zero_rest-requires-3 c = grind (arith, (grid_rooms c.of_grid-asked.ensures c.find_grid-found.ensures).0.2, c.find_grid-found.auto.span)

pub zero_rest-requires-4 : goal.zero_rest-requires-4
unfolding rows_in
zero_rest-requires-4 c = grind (arith, (grid_rooms c.of_grid-asked.ensures c.find_grid-found.ensures).1.0, c.find_grid-found.auto.row)

pub zero_rest-requires-5 : goal.zero_rest-requires-5
unfolding rows_in
zero_rest-requires-5 c = grind (arith, (grid_rooms c.of_grid-asked.ensures c.find_grid-found.ensures).1.1, c.find_grid-found.auto.row_end)

pub returns : goal.returns
unfolding entries_in rows_in joined_grid_of
returns c =
    let f = c.find_grid-found in
    record {
      answer_is = grid_told _ _ _ _ _ c.of_grid-asked.ensures f.ensures;
      left =
          grid_left c.of_grid-asked.ensures f.ensures (search rules) (search rules)
          f.auto.cell f.auto.first f.auto.span f.auto.row f.auto.row_end
          c.zero_rest.ensures c.zero_rest-2.ensures c.zero_rest-3.ensures c.zero_rest-4.ensures c.zero_rest-5.ensures;
    }
