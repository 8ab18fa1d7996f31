-- `joined_owners::joined_owner` meets its contract: the records of both grids can be read, and what is found tells the owner.
use mathlib.Core.Path.{◌∙◌}
use Rattle.joined_owners.proofs.Tables.{table_readable, table_columns, owner_told}
use Rattle.joined_owners.proofs.joined_owner.Goals as goal

pub find_place-requires-clause-left_readable : goal.find_place-requires-clause-left_readable
find_place-requires-clause-left_readable c = table_readable c.requires.left_table

pub find_place-requires-clause-right_readable : goal.find_place-requires-clause-right_readable
find_place-requires-clause-right_readable c = table_readable c.requires.right_table

pub find_place-requires-clause-columns_bound : goal.find_place-requires-clause-columns_bound
find_place-requires-clause-columns_bound c = table_columns c.requires.left_table

pub returns-in-Left : goal.returns-in-Left
returns-in-Left c = c.filler_owner.ensures ∙ owner_told c.requires c.args.entry c.find_place.ensures c.in-Left.is

pub returns-in-Right : goal.returns-in-Right
returns-in-Right c = c.filler_owner-in-Right.ensures ∙ owner_told c.requires c.args.entry c.find_place.ensures c.in-Right.is

pub returns-in-Empty : goal.returns-in-Empty
returns-in-Empty c = owner_told c.requires c.args.entry c.find_place.ensures c.in-Empty.is

pub returns-in-Past : goal.returns-in-Past
returns-in-Past c = owner_told c.requires c.args.entry c.find_place.ensures c.in-Past.is
