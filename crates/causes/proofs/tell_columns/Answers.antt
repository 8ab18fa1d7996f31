-- `causes::tell_columns` meets its contract: entries that are whole can be raised, and columns whose leasts are nowhere above their sizes can be laid
-- out. Each fact follows from the answers before it by a law of Columns.
use mathlib.Core.Path.{refl}
use Rattle.column_sizes.proofs.Columns.{layable}
use Rattle.causes.proofs.tell_columns.Goals as goal

pub lay_columns-requires : goal.lay_columns-requires
lay_columns-requires c = layable c.requires.entered c.requires.sizes_length c.raise_columns.ensures refl c.requires.few
