-- What is kept of a line, of an entry of a table's grid and of a row of it.
use Rattle.kinds.specs.declared.Kind.TheVariants.{Text}
use Rattle.records.specs.declared.NodeRecord.{NodeRecord}

-- what stands in a list past its end: zeros, as the language's own statement of a read has it
abbrev pub no_node : NodeRecord
no_node = record { depth = 0; kind = Text; cols = 0; rows = 0; number = 0; own = 0 }
