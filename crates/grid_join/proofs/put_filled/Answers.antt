-- `grid_join::put_filled` meets its contract: the row is written, which moved by no columns stays, and then what it lacks.
use Rattle.grid_join.proofs.Putting.{filled_put}
use Rattle.grid_join.proofs.put_filled.Goals as goal

pub returns : goal.returns
returns c = filled_put c.args.columns c.args.row.now c.row_end-end.ensures c.put_moved-m.ensures c.put_empty.ensures
