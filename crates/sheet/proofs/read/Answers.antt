-- `sheet::read` meets its contract: 8 and 1 are asked here, and the lines of a sheet that begins as it should are read by `read_lines`.
use mathlib.Core.Path.{sym, ◌∙◌}
use Rattle.sheet.proofs.Heading.{too_long_refused, unheaded_refused, refused_reads}
use Rattle.sheet.proofs.read.Goals as goal

pub returns-then-too_long : goal.returns-then-too_long
returns-then-too_long c = rw c.at.ensures (refused_reads (too_long_refused _ (sym c.too_long.ensures ∙ c.if-too_long.true)))

pub returns-then-not-is_headed : goal.returns-then-not-is_headed
returns-then-not-is_headed c =
    rw c.at-then-not-is_headed.ensures
    (refused_reads (unheaded_refused _ (sym c.too_long.ensures ∙ c.if-too_long.false) (sym c.is_headed.ensures ∙ c.if-not-is_headed.true)))
