-- `resolved_rows::resolve_rows` meets its contract. The loop's invariant (`Sofar`): the cells before `from` are resolved and those from there on are as they
-- were; with the rows from row j on resolved they are the whole body resolved. No row's sum passes `most`, so the difference is one. The measure is
-- the number of rows left.
use mathlib.Core.Path.{◌≡◌}
use Prim.Native.Nat.{◌*◌, ◌≤◌, ◌<◌}
use native.Mathlib.Omega.{arith}
use lib.ListN.{length, get_or, length-map, get_or-map}
use Rattle.records.specs.inner.NodeRecord.{no_row}
use Rattle.records.specs.inner.Figures.{row_end, row_ends_of}
use Rattle.resolved_rows.specs.inner.Spans.{last_end}
use Rattle.resolved_rows.proofs.Bodies.{row_ends_fits}
use Rattle.resolved_rows.proofs.Resolving.{stop, row_in, here_narrow, here_lacks, turn}
use Rattle.resolved_rows.proofs.resolve_rows.Goals as goal
use Rattle.resolved_rows.proofs.resolve_rows.Goals.{In-loop-j}

rows_count : (c : In-loop-j) → length (row_ends_of c.args.rows.now) ≡ length c.args.rows.now
rows_count c = length-map c.args.rows.now row_end

more : (c : In-loop-j) → c.loop-j.j < length (row_ends_of c.args.rows.now)
more c = omega (arith, rows_count c, c.loop-j-test.true)

-- the row that a turn resolves begins and ends among the cells of the body
end_is : (c : In-loop-j) → get_or (row_ends_of c.args.rows.now) c.loop-j.j 0 ≡ (get_or c.args.rows.now c.loop-j.j no_row).end
end_is c = get_or-map row_end c.args.rows.now c.loop-j.j no_row

inside : (c : In-loop-j) → (c.loop-j.from ≤ (get_or c.args.rows.now c.loop-j.j no_row).end) × (3 * (get_or c.args.rows.now c.loop-j.j no_row).end ≤ length c.loop-j.cells) × ((get_or c.args.rows.now c.loop-j.j no_row).end ≤ last_end c.args.first (row_ends_of c.args.rows.now))
inside c =
    let w = row_in c.requires.body_held c.requires.rows_held c.requires.largest_sum c.loop-j.invariant (more c) _ (end_is c) in
    (w.0, w.1, omega (arith, (row_ends_fits c.loop-j.invariant.filled.along (more c)).1, end_is c))

pub overflow_mul-from : goal.overflow_mul-from
overflow_mul-from c = omega (arith, inside (goal.at.overflow_mul-from c).In-loop-j, c.requires.body_held.few)

pub offset_bounds-cells-from : goal.offset_bounds-cells-from
offset_bounds-cells-from c = omega (arith, inside (goal.at.offset_bounds-cells-from c).In-loop-j, c.requires.body_held.few)

pub slice_bounds-row_sum-count : goal.slice_bounds-row_sum-count
slice_bounds-row_sum-count c = omega (arith, inside (goal.at.slice_bounds-row_sum-count c).In-loop-j, c.requires.body_held.few)

pub slice_bounds-row_sum-start : goal.slice_bounds-row_sum-start
slice_bounds-row_sum-start c = omega (arith, inside (goal.at.slice_bounds-row_sum-start c).In-loop-j, c.requires.body_held.few)

pub slice_bounds-row_sum-end : goal.slice_bounds-row_sum-end
slice_bounds-row_sum-end c = omega (arith, inside (goal.at.slice_bounds-row_sum-end c).In-loop-j, c.requires.body_held.few)

pub row_sum-sum-requires : goal.row_sum-sum-requires
row_sum-sum-requires c = here_narrow c.requires.body_held c.requires.rows_held c.requires.largest_sum c.loop-j.invariant (more (goal.at.row_sum-sum-requires c).In-loop-j) _ (end_is (goal.at.row_sum-sum-requires c).In-loop-j)

pub overflow_mul-from-in-loop-j : goal.overflow_mul-from-in-loop-j
overflow_mul-from-in-loop-j c = omega (arith, inside (goal.at.overflow_mul-from-in-loop-j c).In-loop-j, c.requires.body_held.few)

pub offset_bounds-cells-from-in-loop-j : goal.offset_bounds-cells-from-in-loop-j
offset_bounds-cells-from-in-loop-j c = omega (arith, inside (goal.at.offset_bounds-cells-from-in-loop-j c).In-loop-j, c.requires.body_held.few)

pub slice_bounds-resolve_row-count : goal.slice_bounds-resolve_row-count
slice_bounds-resolve_row-count c = omega (arith, inside (goal.at.slice_bounds-resolve_row-count c).In-loop-j, c.requires.body_held.few)

pub slice_bounds-resolve_row-start : goal.slice_bounds-resolve_row-start
slice_bounds-resolve_row-start c = omega (arith, inside (goal.at.slice_bounds-resolve_row-start c).In-loop-j, c.requires.body_held.few)

pub slice_bounds-resolve_row-end : goal.slice_bounds-resolve_row-end
slice_bounds-resolve_row-end c = omega (arith, inside (goal.at.slice_bounds-resolve_row-end c).In-loop-j, c.requires.body_held.few)

pub overflow_sub-most : goal.overflow_sub-most
overflow_sub-most c = omega (arith, c.row_sum-sum.ensures, here_lacks c.requires.body_held c.requires.rows_held c.requires.largest_sum c.loop-j.invariant (more (goal.at.overflow_sub-most c).In-loop-j) _ (end_is (goal.at.overflow_sub-most c).In-loop-j))

pub loop-j-preserved : goal.loop-j-preserved
loop-j-preserved c = turn c.requires.body_held c.requires.rows_held c.requires.largest_sum c.loop-j.invariant (more (goal.at.loop-j-preserved c).In-loop-j) _ (end_is (goal.at.loop-j-preserved c).In-loop-j) _ c.row_sum-sum.ensures _ c.resolve_row.auto.cells (rw (← rows_count (goal.at.loop-j-preserved c).In-loop-j) at c.resolve_row.ensures)

pub returns : goal.returns
returns c = stop c.requires.body_held c.requires.rows_held c.requires.largest_sum c.loop-j.invariant (omega (arith, length-map c.args.rows.now row_end, c.loop-j-test.false))
