-- `widths::lay_columns` meets its contract. The way says, if it is sideways, that the leasts fit, as the final widths ask; these fit the width, as
-- the table's width asks. Each fact follows from the answers before it by a law of Laying.
use Rattle.widths.proofs.Laying.{sized, fitted}
use Rattle.widths.proofs.lay_columns.Goals as goal

pub write_widths-requires : goal.write_widths-requires
write_widths-requires c = sized c.requires _ c.way_of-way.ensures

pub table_width-requires : goal.table_width-requires
table_width-requires c = fitted c.requires _ c.way_of-way.ensures c.write_widths.ensures
