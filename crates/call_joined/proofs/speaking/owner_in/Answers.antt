-- `call_joined::speaking::owner_in` meets its contract: the records of both grids can be read, and 5 and 6 are those of the joined grid.
use mathlib.Core.Path.{sym, ap, ◌∙◌}
use native.Mathlib.Omega.{arith}
use Rattle.std.specs.Prelude.{Ok, Err}
use Rattle.joined_owners.proofs.Tables.{table_readable, table_columns}
use Rattle.call_joined.proofs.Replies.{owner_5, owner_6, owner_found}
use Rattle.call_joined.proofs.speaking.owner_in.Goals as goal

pub overflow_add-left : goal.overflow_add-left
overflow_add-left c = omega (arith, table_columns c.requires.left_table, table_columns c.requires.right_table)

pub returns-then-left-right-gt-MAX_POSITION : goal.returns-then-left-right-gt-MAX_POSITION
returns-then-left-right-gt-MAX_POSITION c = ap Err c.at.ensures ∙ sym (owner_5 c.requires c.args.entry c.if-left-right-gt-MAX_POSITION.true)

pub count-requires-clause-left_readable : goal.count-requires-clause-left_readable
count-requires-clause-left_readable c = table_readable c.requires.left_table

pub count-requires-clause-right_readable : goal.count-requires-clause-right_readable
count-requires-clause-right_readable c = table_readable c.requires.right_table

pub returns-then-count-gt-MAX_ENTRIES : goal.returns-then-count-gt-MAX_ENTRIES
returns-then-count-gt-MAX_ENTRIES c =
    ap Err c.at-then-count-gt-MAX_ENTRIES.ensures
    ∙ sym (owner_6 c.requires c.args.entry c.if-left-right-gt-MAX_POSITION.false c.count.ensures c.if-count-gt-MAX_ENTRIES.true)

pub returns : goal.returns
returns c =
    ap Ok c.joined_owner.ensures
    ∙ sym (owner_found c.requires c.args.entry c.if-left-right-gt-MAX_POSITION.false c.count.ensures c.if-count-gt-MAX_ENTRIES.false)
