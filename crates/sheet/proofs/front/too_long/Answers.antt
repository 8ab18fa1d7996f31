-- `sheet::front::too_long` meets its contract: the line feeds are counted where the bytes are few enough.
use mathlib.Core.Path.{refl}
use borrow.Author.Tests.{le-ltb}
use Rattle.sheet.proofs.front.too_long.Goals as goal

pub feeds_of-requires : goal.feeds_of-requires
feeds_of-requires c = c.if-long.false

pub returns-else-long : goal.returns-else-long
returns-else-long c = rw (le-ltb _ _ c.if-long.false, c.feeds_of.ensures) refl
