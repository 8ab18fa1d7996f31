-- `estimates::single::holder` meets its contract: a prefix is at most 13, so that the sums fit.
use native.Mathlib.Omega.{arith}
use mathlib.Core.Path.{sym, ◌∙◌}
use Rattle.estimates.specs.Estimates.{holder_of}
use Rattle.estimates.proofs.Ranges.{prefix_small}
use Rattle.estimates.proofs.single.holder.Goals as goal

pub returns-then-eq : goal.returns-then-eq
unfolding holder_of
returns-then-eq c = rw (sym c.eq.ensures ∙ c.if-eq.true, c.max.ensures)

pub overflow_add-result-2 : goal.overflow_add-result-2
overflow_add-result-2 c =
    let p = c.requires in
    omega (arith, c.prefix_of-prefix.ensures, prefix_small _ _ p.numbered, p.fitting.size)

pub overflow_add-result-3 : goal.overflow_add-result-3
overflow_add-result-3 c =
    let p = c.requires in
    omega (arith, c.prefix_of-prefix.ensures, prefix_small _ _ p.numbered, p.fitting.size, p.fitting.least_size)

pub returns : goal.returns
unfolding holder_of
returns c = rw (sym c.eq.ensures ∙ c.if-eq.false, c.prefix_of-prefix.ensures)
