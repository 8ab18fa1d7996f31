-- `line_fast::bare_line` meets its contract: the number is that of ` 0 0 0 ` and a line feed.
use mathlib.Core.Path.{refl, ◌∙◌}
use Rattle.line_fast.specs.inner.Bytes.{ending}
use Rattle.swar.proofs.Standing.{stand_given}
use Rattle.line_fast.proofs.bare_line.Goals as goal

pub returns : goal.returns
returns c b e = record { stands = stand_given c.eight.ensures (ending 0 0) refl refl (c.if-eight-from_le_bytes.false ∙ c.from_le_bytes.ensures); is = cc }
