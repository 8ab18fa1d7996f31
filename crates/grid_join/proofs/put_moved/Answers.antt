-- `grid_join::put_moved` meets its contract: a turn moves an entry, which ends within the columns that a grid can have.
use mathlib.Core.Path.{refl}
use native.Mathlib.Omega.{arith}
use Rattle.common.proofs.All.{at_all}
use Rattle.records.specs.inner.NodeRecord.{no_entry}
use Rattle.grid_join.specs.inner.Reading.{Narrow}
use Rattle.grid_join.proofs.Putting.{moving_stop}
use Rattle.grid_join.proofs.put_moved.Goals as goal

pub overflow_add-entries : goal.overflow_add-entries
overflow_add-entries c =
    let w = at_all Narrow no_entry c.args.row.now c.loop-i.i c.requires.row_ready.narrow (omega (arith, c.loop-i-test.true)) in
    omega (arith, w, c.requires.by_bound)

pub returns : goal.returns
returns c = moving_stop c.loop-i.invariant (omega (arith, c.loop-i-test.false)) refl
