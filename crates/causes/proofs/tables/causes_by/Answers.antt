-- `causes::tables::causes_by` meets its contract: the causes follow from the figures that are told.
use Rattle.causes.proofs.Columns.{causes_told}
use Rattle.causes.proofs.tables.causes_by.Goals as goal

pub returns : goal.returns
returns c = causes_told c.tell_columns.ensures c.requires.cause_len c.write_causes.ensures
