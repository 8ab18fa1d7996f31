-- `number_rows` meets its contract. The loop's invariant (`Sofar`): the records written, followed by the definition of the rows that are left, are
-- the definition of all rows, and so are the edges asked and the longest row; the entries that are left stand as they stood. A turn numbers one row by
-- `renumber`: at edges one row's records more are written, else the rows are refused.
use mathlib.Core.Path.{◌≡◌, ◌∙◌}
use Prim.Native.Nat.{◌≤◌, ◌<◌}
use native.Mathlib.Omega.{arith}
use lib.ListN.{length, get_or, length-map, get_or-map}
use borrow.Rule.Slice.PartMut.{same_len_mid}
use Rattle.common.specs.Lists.{sum}
use Rattle.common.specs.Limits.{max_position}
use Rattle.records.specs.inner.NodeRecord.{no_row}
use Rattle.records.specs.inner.Figures.{row_end, row_ends_of, entry_span, entry_spans_of}
use Rattle.column_edges.specs.inner.Edges.{part}
use Rattle.grid.proofs.NumberLoop.{stop, fits, lent_spans, lent_row, turn, turn_missing}
use Rattle.grid.proofs.number_rows.Goals as goal
use Rattle.grid.proofs.number_rows.Goals.{In-loop-row}

more : (c : In-loop-row) → c.loop-row.row-index < length (row_ends_of c.args.rows.now)
more c = omega (arith, length-map c.args.rows.now row_end, c.loop-row-test.true)

end_is : (c : In-loop-row) → get_or (row_ends_of c.args.rows.now) c.loop-row.row-index 0 ≡ (get_or c.args.rows.now c.loop-row.row-index no_row).end
end_is c = get_or-map row_end c.args.rows.now c.loop-row.row-index no_row

-- its entries lie within the slice
row_in : (c : In-loop-row) → let end = (get_or c.args.rows.now c.loop-row.row-index no_row).end in
    (c.loop-row.start ≤ end) × (end ≤ length c.loop-row.entries) × (sum (part c.loop-row.start end (entry_spans_of c.args.entries.now)) ≤ max_position)
row_in c =
    let f = fits c.loop-row.invariant.0 (more c) _ (end_is c) in
    (f.0, omega (arith, f.1, length-map c.args.entries.now entry_span, c.loop-row.invariant.1), f.2)

pub offset_bounds-entries-start : goal.offset_bounds-entries-start
offset_bounds-entries-start c = omega (arith, row_in (goal.at.offset_bounds-entries-start c).In-loop-row)

pub slice_bounds-renumber-count : goal.slice_bounds-renumber-count
slice_bounds-renumber-count c = omega (arith, row_in (goal.at.slice_bounds-renumber-count c).In-loop-row)

pub slice_bounds-renumber-start : goal.slice_bounds-renumber-start
slice_bounds-renumber-start c = omega (arith, row_in (goal.at.slice_bounds-renumber-start c).In-loop-row)

pub slice_bounds-renumber-end : goal.slice_bounds-renumber-end
slice_bounds-renumber-end c = omega (arith, row_in (goal.at.slice_bounds-renumber-end c).In-loop-row)

pub renumber-requires-clause-entries_bound : goal.renumber-requires-clause-entries_bound
renumber-requires-clause-entries_bound c =
    let r = row_in (goal.at.renumber-requires-clause-entries_bound c).In-loop-row in
    rw (lent_spans c.loop-row.start _ c.args.entries.now c.loop-row.entries c.loop-row.invariant.0.kept r.0 r.1) r.2

pub returns-in_err-n : goal.returns-in_err-n
returns-in_err-n c =
    let k : In-loop-row = (goal.at.returns-in_err-n c).In-loop-row in
    let r = row_in k in
    rw c.from_residual.ensures
    (turn_missing c.loop-row.invariant.0 (more k) _ (end_is k)
    (lent_row c.loop-row.start _ c.args.entries.now c.loop-row.entries c.loop-row.invariant.0.kept r.0 r.1 c.renumber.ensures c.renumber.auto.entries) c.in_err-n.was)

pub loop-row-preserved : goal.loop-row-preserved
loop-row-preserved c =
    let k : In-loop-row = (goal.at.loop-row-preserved c).In-loop-row in
    let r = row_in k in (
      turn c.loop-row.invariant.0 (more k) _ (end_is k)
          (lent_row c.loop-row.start _ c.args.entries.now c.loop-row.entries c.loop-row.invariant.0.kept r.0 r.1 c.renumber.ensures c.renumber.auto.entries)
          _ c.in_ok-n.was _ c.max-columns.ensures,
      same_len_mid c.loop-row.start _ c.loop-row.entries _ c.renumber.auto.entries ∙ c.loop-row.invariant.1,
    )

pub returns : goal.returns
returns c = stop c.loop-row.invariant.0 (omega (arith, length-map c.args.rows.now row_end, c.loop-row-test.false)) (omega (arith, length-map c.args.entries.now entry_span, c.loop-row.invariant.1))
