-- `resolved_rows::widest_row` meets its contract. The loop's invariant, `Widening`: the larger of what is found and of the largest sum of the rows
-- from row j on is the body's largest sum, and `from` is where row j begins. Each row's cells lie within the body's (`row_ends_fits`), so the
-- parts of the slice are within it. The measure is the number of rows left.
use mathlib.Core.Path.{◌≡◌, sym, ap, subst, ◌∙◌}
use mathlib.Core.List.{List}
use Prim.Native.Nat.{ℕ, ◌+◌, ◌*◌, ◌-◌, ◌≤◌, ◌<◌}
use native.Mathlib.Omega.{arith}
use lib.ListN.{length, get_or, take, drop, length-map, get_or-map}
use Rattle.records.specs.inner.NodeRecord.{no_row}
use Rattle.resolved_rows.specs.Cells.{row_sum}
use Rattle.resolved_rows.specs.inner.Held.{cell_by, held_span, spans_of}
use Rattle.records.specs.inner.Figures.{row_end, row_ends_of}
use Rattle.resolved_rows.specs.inner.Spans.{bare, part, last_end, Narrow}
use Rattle.resolved_rows.proofs.Figures.{length_figures, figures_part}
use Rattle.resolved_rows.proofs.Bodies.{Widening, row_ends_fits, row_narrow, widest_more, widest_stop}
use Rattle.resolved_rows.proofs.widest_row.Goals as goal
use Rattle.resolved_rows.proofs.widest_row.Goals.{In-loop-row}

more : (c : In-loop-row) → c.loop-row.row-index < length (row_ends_of c.args.rows.now)
more c = omega (arith, length-map c.args.rows.now row_end, c.loop-row-test.true)

-- the row that a turn adds up begins and ends among the cells of the body
end_is : (c : In-loop-row) → get_or (row_ends_of c.args.rows.now) c.loop-row.row-index 0 ≡ (get_or c.args.rows.now c.loop-row.row-index no_row).end
end_is c = get_or-map row_end c.args.rows.now c.loop-row.row-index no_row

row_in : (c : In-loop-row) → (c.loop-row.from ≤ (get_or c.args.rows.now c.loop-row.row-index no_row).end) × ((get_or c.args.rows.now c.loop-row.row-index no_row).end ≤ last_end c.args.first (row_ends_of c.args.rows.now)) × (3 * (get_or c.args.rows.now c.loop-row.row-index no_row).end ≤ length c.args.cells.now)
row_in c =
    let e = row_ends_fits c.loop-row.invariant.along (more c) in
    (omega (arith, e.0, end_is c), omega (arith, e.1, end_is c), omega (arith, e.1, end_is c, c.requires.held, length_figures 3 cell_by held_span c.args.cells.now))

spans-here : (c : In-loop-row) → spans_of (take (3 * (get_or c.args.rows.now c.loop-row.row-index no_row).end - 3 * c.loop-row.from) (drop (3 * c.loop-row.from) c.args.cells.now))
    ≡ part c.loop-row.from (get_or (row_ends_of c.args.rows.now) c.loop-row.row-index 0) (spans_of c.args.cells.now)
spans-here c =
    figures_part 3 cell_by held_span (omega arith) c.loop-row.from (get_or c.args.rows.now c.loop-row.row-index no_row).end c.args.cells.now (row_in c).0 (row_in c).2
    ∙ ap (λ (t : ℕ). part c.loop-row.from t (spans_of c.args.cells.now)) (sym (end_is c))

pub overflow_mul-from : goal.overflow_mul-from
overflow_mul-from c = omega (arith, row_in (goal.at.overflow_mul-from c).In-loop-row, c.requires.few)

pub offset_bounds-cells-from : goal.offset_bounds-cells-from
offset_bounds-cells-from c = omega (arith, row_in (goal.at.offset_bounds-cells-from c).In-loop-row, c.requires.few)

pub slice_bounds-row_sum-count : goal.slice_bounds-row_sum-count
slice_bounds-row_sum-count c = omega (arith, row_in (goal.at.slice_bounds-row_sum-count c).In-loop-row)

pub slice_bounds-row_sum-start : goal.slice_bounds-row_sum-start
slice_bounds-row_sum-start c = omega (arith, row_in (goal.at.slice_bounds-row_sum-start c).In-loop-row)

pub slice_bounds-row_sum-end : goal.slice_bounds-row_sum-end
slice_bounds-row_sum-end c = omega (arith, row_in (goal.at.slice_bounds-row_sum-end c).In-loop-row)

pub row_sum-requires : goal.row_sum-requires
row_sum-requires c = subst Narrow (sym (spans-here (goal.at.row_sum-requires c).In-loop-row)) (row_narrow c.loop-row.invariant.along (more (goal.at.row_sum-requires c).In-loop-row) c.requires)

pub loop-row-preserved : goal.loop-row-preserved
loop-row-preserved c =
    subst (λ (t : ℕ). Widening c.args.first (row_ends_of c.args.rows.now) (spans_of c.args.cells.now) c.max-most.result t (c.loop-row.row-index + 1)) (end_is (goal.at.loop-row-preserved c).In-loop-row)
    (widest_more c.requires c.loop-row.invariant (more (goal.at.loop-row-preserved c).In-loop-row) _ _ (c.row_sum.ensures ∙ ap (λ (p : List ℕ). row_sum (bare p)) (spans-here (goal.at.loop-row-preserved c).In-loop-row)) c.max-most.ensures)

pub returns : goal.returns
returns c = widest_stop c.requires c.loop-row.invariant (omega (arith, length-map c.args.rows.now row_end, c.loop-row-test.false))
