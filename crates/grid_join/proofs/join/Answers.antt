-- `grid_join::join` meets its contract: the answer is that of the grids that are read back from the records, and so of all grids whose records they are.
use mathlib.Core.Path.{refl}
use Rattle.grid_join.proofs.Answer.{joins_5, joins_6, joins_grid, left_readable, right_readable, rows_ready, join_post}
use Rattle.grid_join.proofs.join.Goals as goal

pub count-n-requires-clause-left_readable : goal.count-n-requires-clause-left_readable
count-n-requires-clause-left_readable c = left_readable c.args.left.columns c.args.right.columns c.args.left.entries.now c.args.left.rows.now c.args.right.entries.now c.args.right.rows.now c.requires

pub count-n-requires-clause-right_readable : goal.count-n-requires-clause-right_readable
count-n-requires-clause-right_readable c = right_readable c.args.left.columns c.args.right.columns c.args.left.entries.now c.args.left.rows.now c.args.right.entries.now c.args.right.rows.now c.requires

pub join_rows-requires-clause-left_readable : goal.join_rows-requires-clause-left_readable
join_rows-requires-clause-left_readable c = left_readable c.args.left.columns c.args.right.columns c.args.left.entries.now c.args.left.rows.now c.args.right.entries.now c.args.right.rows.now c.requires

pub join_rows-requires-clause-right_readable : goal.join_rows-requires-clause-right_readable
join_rows-requires-clause-right_readable c = right_readable c.args.left.columns c.args.right.columns c.args.left.entries.now c.args.left.rows.now c.args.right.entries.now c.args.right.rows.now c.requires

pub join_rows-requires-clause-capacity : goal.join_rows-requires-clause-capacity
join_rows-requires-clause-capacity c =
    rows_ready c.args.left.columns c.args.right.columns c.args.left.entries.now c.args.left.rows.now c.args.right.entries.now c.args.right.rows.now c.requires
    c.if-columns-gt-MAX_POSITION.false c.count-n.ensures c.if-n-gt-MAX_ENTRIES.false

pub returns-then-columns-gt-MAX_POSITION : goal.returns-then-columns-gt-MAX_POSITION
returns-then-columns-gt-MAX_POSITION c =
    join_post c.args.left.columns c.args.right.columns c.args.left.entries.now c.args.left.rows.now c.args.right.entries.now c.args.right.rows.now _ _ _
    (joins_5 c.args.left.columns c.args.right.columns c.args.left.entries.now c.args.left.rows.now c.args.right.entries.now c.args.right.rows.now _ _
    c.if-columns-gt-MAX_POSITION.true)

pub returns-then-n-gt-MAX_ENTRIES : goal.returns-then-n-gt-MAX_ENTRIES
returns-then-n-gt-MAX_ENTRIES c =
    join_post c.args.left.columns c.args.right.columns c.args.left.entries.now c.args.left.rows.now c.args.right.entries.now c.args.right.rows.now _ _ _
    (joins_6 c.args.left.columns c.args.right.columns c.args.left.entries.now c.args.left.rows.now c.args.right.entries.now c.args.right.rows.now _ _
    c.if-columns-gt-MAX_POSITION.false c.count-n.ensures c.if-n-gt-MAX_ENTRIES.true)

pub returns : goal.returns
returns c =
    join_post c.args.left.columns c.args.right.columns c.args.left.entries.now c.args.left.rows.now c.args.right.entries.now c.args.right.rows.now _ _ _
    (joins_grid c.args.left.columns c.args.right.columns c.args.left.entries.now c.args.left.rows.now c.args.right.entries.now c.args.right.rows.now _ _
    c.if-columns-gt-MAX_POSITION.false c.count-n.ensures c.if-n-gt-MAX_ENTRIES.false refl c.max.ensures c.join_rows.ensures)
