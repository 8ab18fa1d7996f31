-- `column_sizes::lay_in` meets its contract: entries that are whole can be raised, and columns whose leasts are nowhere above their sizes can be laid
-- out. Each fact follows from the answers before it by a law of Columns.
use mathlib.Core.Path.{refl}
use Rattle.column_sizes.proofs.Columns.{layable}
use Rattle.column_sizes.proofs.lay_in.Goals as goal

pub lay_columns-requires : goal.lay_columns-requires
lay_columns-requires c = layable c.requires.entered c.requires.sizes_len c.raise_columns.ensures refl c.requires.column_len_bound
