-- `grid_join::count` meets its contract: the entries of both, and those that are put in.
use Prim.Native.Nat.{◌+◌, ◌≤◌}
use native.Mathlib.Omega.{arith}
use lib.ListN.{length}
use Rattle.grid_join.proofs.Answer.{total, total_few}
use Rattle.grid_join.proofs.count.Goals as goal
use Rattle.grid_join.proofs.count.Goals.{After-standing_in-lacking}

few : (c : After-standing_in-lacking) → length c.args.left.entries.now + length c.args.right.entries.now + c.short_rows-short.result + c.standing_in-lacks.result + c.standing_in-lacking.result ≤ 32768
few c =
    total_few c.args.left.columns c.args.right.columns c.args.left.entries.now c.args.left.rows.now c.args.right.entries.now c.args.right.rows.now
    c.requires.left_readable c.requires.right_readable c.short_rows-short.ensures c.standing_in-lacks.ensures c.standing_in-lacking.ensures

pub overflow_add-result-2 : goal.overflow_add-result-2
overflow_add-result-2 c = omega (arith, few (goal.at.overflow_add-result-2 c).After-standing_in-lacking)

pub overflow_add-result-3 : goal.overflow_add-result-3
overflow_add-result-3 c = omega (arith, few (goal.at.overflow_add-result-3 c).After-standing_in-lacking)

pub overflow_add-result-4 : goal.overflow_add-result-4
overflow_add-result-4 c = omega (arith, few (goal.at.overflow_add-result-4 c).After-standing_in-lacking)

pub returns : goal.returns
returns c =
    total c.args.left.columns c.args.right.columns c.args.left.entries.now c.args.left.rows.now c.args.right.entries.now c.args.right.rows.now
    c.requires.left_readable c.requires.right_readable c.short_rows-short.ensures c.standing_in-lacks.ensures c.standing_in-lacking.ensures
