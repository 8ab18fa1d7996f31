-- `sheet::front::feeds_of` meets its contract: a turn counts the line feeds of one block (`blocks_add`).
use borrow.Author.Rules.{rules}
use native.Mathlib.Omega.{arith}
use mathlib.Core.Path.{ap, ◌∙◌}
use Rattle.fields.specs.Lines.{feeds}
use Rattle.sheet.proofs.Heading.{feeds_few, feeds_none}
use Rattle.sheet.proofs.Blocks.{taken_off, blocks_add, blocks_fit}
use Rattle.sheet.proofs.front.feeds_of.Goals as goal

pub sum-requires-clause-fits : goal.sum-requires-clause-fits
sum-requires-clause-fits c =
    blocks_fit _ _ (λ s. s.iter.rest.now) (λ s x t e. taken_off e.0.now t.iter.rest.now e.1.1.0 (search rules))
    (omega (arith, feeds_few c.args.bytes.now, c.requires, ap (λ i. feeds i.rest.now) c.map.ensures.source, ap feeds c.chunks.ensures.rest))

pub returns : goal.returns
returns c =
    blocks_add c.map.result (c.sum.ensures.runs tt) (λ s. s.iter.rest.now)
    (λ s x t e. taken_off e.0.now t.iter.rest.now e.1.1.0 (search rules))
    (λ s t e. feeds_none _ e.0.1.0)
    ∙ ap (λ i. feeds i.rest.now) c.map.ensures.source
    ∙ ap feeds c.chunks.ensures.rest
