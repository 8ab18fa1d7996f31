-- The records of nodes, of entries and of rows that stand in arrays before anything is written.
use Rattle.std.specs.Prelude.{ℕ, ◌≤◌}
use Rattle.common.specs.Limits.{max_depth, max_cols, max_rows}
use Rattle.kinds.specs.declared.Kind.{Kind}
use Rattle.kinds.specs.declared.Kind.TheVariants.{Text, Cell}
use Rattle.records.specs.declared.NodeRecord.{NodeRecord}
use Rattle.records.specs.declared.Entry.{Entry}
use Rattle.records.specs.declared.RowEnd.{RowEnd}

-- a line's depth and spans are in their ranges, as those of every line of an accepted sheet are
pub record InRanges (k : NodeRecord) : Type 0 where
  pub deep : k.depth ≤ max_depth
  pub wide : k.cols ≤ max_cols
  pub high : k.rows ≤ max_rows

-- what is kept of a line of a kind without figures, of a cell and of a text; a number of 0 stands shifted up by 1,000,000,000
abbrev pub bare_node : ℕ → Kind → NodeRecord
bare_node depth kind = record { depth = depth; kind = kind; cols = 0; rows = 0; number = 1000000000; own = 0 }

abbrev pub cell_node : (depth cols rows : ℕ) → NodeRecord
cell_node depth cols rows = record { depth = depth; kind = Cell; cols = cols; rows = rows; number = 1000000000; own = 0 }

abbrev pub text_node : (depth own : ℕ) → NodeRecord
text_node depth own = record { depth = depth; kind = Text; cols = 0; rows = 0; number = 1000000000; own = own }

abbrev pub no_entry : Entry
no_entry = record { cell = 0; first = 0; span = 0 }

abbrev pub no_row : RowEnd
no_row = record { line = 0; end = 0 }
