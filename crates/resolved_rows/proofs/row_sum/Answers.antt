-- `resolved_rows::row_sum` meets its contract: the chain gives the cols of the row's cells, 0 as 1. Their sum is at most 1,000 for each cell (`sum_small`), so it
-- fits.
use mathlib.Core.Path.{◌∙◌}
use native.Mathlib.Omega.{arith}
use borrow.Author.Rules.{rules}
use Rattle.std.proofs.lemmas.Iterator.{YieldsList-from_map}
use Rattle.std.proofs.lemmas.Iterator.Consumers.{sum_from_yields_List, fits_from_yields_list}
use Rattle.resolved_rows.specs.inner.Held.{spans_of}
use Rattle.resolved_rows.proofs.Sums.{sum_small}
use Rattle.resolved_rows.proofs.Chunks.{cells_come, wide_of, wides_sum}
use Rattle.resolved_rows.proofs.row_sum.Goals as goal

pub sum-requires-clause-fits : goal.sum-requires-clause-fits
sum-requires-clause-fits c =
    fits_from_yields_list c.map.result 4294967296
    (YieldsList-from_map _ wide_of (cells_come c.args.cells.now (cc) (cc)) c.map.ensures.closure (λ x r q called. search rules))
    (omega (arith, wides_sum c.args.cells.now, sum_small (spans_of c.args.cells.now) c.requires.narrow, c.requires.few))

pub returns : goal.returns
returns c =
    sum_from_yields_List c.map.result c.sum.result c.sum.ensures.ran
    (YieldsList-from_map _ wide_of (cells_come c.args.cells.now (cc) (cc)) c.map.ensures.closure (λ x r q called. search rules))
    ∙ wides_sum c.args.cells.now
