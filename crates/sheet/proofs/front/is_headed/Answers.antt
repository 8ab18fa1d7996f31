-- `sheet::front::is_headed` meets its contract: the comparison is the definition's.
use mathlib.Core.Path.{refl, sym}
use Rattle.fields.specs.Lines.{heading, headed}
use Rattle.fields.proofs.Words.{word_told}
use Rattle.sheet.proofs.front.is_headed.Goals as goal

pub returns : goal.returns
unfolding headed
returns c = sym (word_told heading _ c.starts_with.ensures.value refl)
