-- `call_missing::making::explain` meets its contract: what is told of the records is what the definition says of the table's boxes.
use mathlib.Core.Path.{sym}
use native.Mathlib.Omega.{arith}
use lib.Seq.{length-take-le}
use Rattle.grid_build.proofs.Cut.{made_within}
use Rattle.call_missing.proofs.Made.{columns_in, explainable, made_few, made_told}
use Rattle.call_missing.proofs.making.explain.Goals as goal

pub records-grid-requires : goal.records-grid-requires
records-grid-requires c = made_within c.make-counts.ensures

pub slice_bounds-explain-end : goal.slice_bounds-explain-end
slice_bounds-explain-end c = columns_in c.args.t c.make-counts.ensures c.records-grid.ensures c.requires.explain_capacity

pub slice_bounds-explain-end-2 : goal.slice_bounds-explain-end-2
slice_bounds-explain-end-2 c = sym (length-take-le _ _ (columns_in c.args.t c.make-counts.ensures c.records-grid.ensures c.requires.explain_capacity))

pub explain-count-requires : goal.explain-count-requires
explain-count-requires c = explainable c.args.t c.make-counts.ensures c.records-grid.ensures c.requires.explain_capacity

pub overflow_cast-result : goal.overflow_cast-result
overflow_cast-result c = omega (arith, (made_few c.args.t c.make-counts.ensures c.records-grid.ensures c.requires.explain_capacity c.explain-count.ensures).0)

pub overflow_cast-result-2 : goal.overflow_cast-result-2
overflow_cast-result-2 c = omega (arith, (made_few c.args.t c.make-counts.ensures c.records-grid.ensures c.requires.explain_capacity c.explain-count.ensures).1)

pub returns : goal.returns
returns c = made_told c.args.t c.make-counts.ensures c.records-grid.ensures c.requires.explain_capacity c.explain-count.ensures c.explain-count.auto.cause _
