-- What the reader answers, and what it leaves in the slice that is lent to it.
use Rattle.records.specs.declared.NodeRecord.{NodeRecord}
use Rattle.text.specs.Decimal.{shifted}
use Rattle.line.specs.Fields.{Line, own_size}

-- what is kept of a line: not its text, only the size that it takes by itself. The number n of an ol may be below 0, and what is kept is
-- not: it stands shifted up by 1,000,000,000, the largest that n can lie from 0, so that 0 is kept for the lowest.
abbrev pub record_of : Line → NodeRecord
record_of l = record { depth = l.depth; kind = l.kind; cols = l.cols; rows = l.rows; number = shifted l.n; own = own_size l }
