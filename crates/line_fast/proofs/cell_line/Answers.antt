-- `line_fast::cell_line` meets its contract: the number is that of ` 0 C R ` and a line feed.
use native.Mathlib.Omega.{arith}
use Rattle.line_fast.proofs.Told.{cell_ends}
use Rattle.line_fast.proofs.cell_line.Goals as goal

pub returns : goal.returns
returns c b e = cell_ends c.eight-end.ensures c.from_le_bytes-zeros.ensures c.if-end-zeros.false c.if-more-ne0.false (omega arith) (omega arith) _ c.cell.ensures b e
