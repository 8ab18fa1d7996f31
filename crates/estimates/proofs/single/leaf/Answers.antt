-- `estimates::single::leaf` meets its contract: the definition asks the same tests in the same order.
use mathlib.Core.Path.{sym, ◌∙◌}
use Rattle.estimates.specs.Estimates.{leaf_of}
use Rattle.estimates.proofs.single.leaf.Goals as goal

pub returns-then-has_text : goal.returns-then-has_text
unfolding leaf_of
returns-then-has_text c = rw (sym c.has_text.ensures ∙ c.if-has_text.true, c.min.ensures)

pub returns-then-eq : goal.returns-then-eq
unfolding leaf_of
returns-then-eq c = rw (sym c.has_text.ensures ∙ c.if-has_text.false, sym c.eq.ensures ∙ c.if-eq.true)

pub returns-else-eq : goal.returns-else-eq
unfolding leaf_of
returns-else-eq c = rw (sym c.has_text.ensures ∙ c.if-has_text.false, sym c.eq.ensures ∙ c.if-eq.false)
