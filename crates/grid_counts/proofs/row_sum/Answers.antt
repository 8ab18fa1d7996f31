-- `grid_counts::row_sum` meets its contract: the chain gives the cols of the row's cells.
use borrow.Author.Rules.{rules}
use Rattle.std.proofs.lemmas.Iterator.{YieldsList-from_slice, YieldsList-from_map}
use Rattle.std.proofs.lemmas.Iterator.Search.{YieldsList-from_take_while}
use Rattle.std.proofs.lemmas.Iterator.Consumers.{YieldsList-at, YieldsList-from_filter}
use Rattle.grid_counts.proofs.SumLoop.{below_row, of_cell, wide_of, wides, Gives, row_fits, row_summed}
use Rattle.grid_counts.proofs.row_sum.Goals as goal
use Rattle.grid_counts.proofs.row_sum.Goals.{After-map}

come : (c : After-map) → Gives c.map.ensures.runs (wides c.args.d c.args.lines.now)
come c =
    YieldsList-from_map _ wide_of
    (YieldsList-at c.map.ensures.source
    (YieldsList-from_filter _ (of_cell c.args.d)
    (YieldsList-at c.filter.ensures.source
    (YieldsList-from_take_while _ (below_row c.args.d)
    (YieldsList-at c.take_while.ensures.source (YieldsList-from_slice c.args.lines.now c.iter.ensures.rest))
    c.take_while.ensures.closure c.take_while.ensures.done (λ x b q called. search rules)))
    c.filter.ensures.closure (λ x b q called. search rules)))
    c.map.ensures.closure (λ x r q called. search rules)

pub sum-requires-clause-fits : goal.sum-requires-clause-fits
sum-requires-clause-fits c = row_fits c.requires c.map.result (come (goal.at.sum-requires-clause-fits c).After-map)

pub returns : goal.returns
returns c = row_summed c.requires c.map.result c.sum.result c.sum.ensures.ran (come (goal.at.returns c).After-map)
