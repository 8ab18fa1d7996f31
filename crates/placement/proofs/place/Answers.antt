-- `placement::place` meets its contract. The loop's invariant, `Rows`: the figures of the rows before r are written up to `from`, and with those of
-- the rows left they are the figures of all rows. The row ends ascend, so the next row's part lies within the slices, and it is written
-- as the definition places it.
use Prim.Native.Nat.{◌≤◌, ◌<◌}
use native.Mathlib.Omega.{arith}
use lib.ListN.{length, get_or}
use Rattle.records.specs.inner.NodeRecord.{no_row}
use Rattle.placement.proofs.RowsLoop.{rows_bounds, rows_row, rows_turn, rows_stop}
use Rattle.placement.proofs.place.Goals as goal
use Rattle.placement.proofs.place.Goals.{In-loop-row}

-- there is one more row
less : (c : In-loop-row) → c.loop-row.row-index < length c.args.rows.now
less c = omega (arith, c.loop-row-test.true)

-- it ends where it should, within the entries
bounds : (c : In-loop-row) → let e = (get_or c.args.rows.now c.loop-row.row-index no_row).end in
    (c.loop-row.from ≤ e) × (e ≤ length c.args.entries.now)
bounds c = rows_bounds _ _ _ _ _ _ _ c.requires _ _ _ _ c.loop-row.invariant (less c)

pub offset_bounds-entries-from : goal.offset_bounds-entries-from
offset_bounds-entries-from c = omega (arith, bounds (goal.at.offset_bounds-entries-from c).In-loop-row)

pub slice_bounds-place_row-count : goal.slice_bounds-place_row-count
slice_bounds-place_row-count c = omega (arith, bounds (goal.at.slice_bounds-place_row-count c).In-loop-row)

pub slice_bounds-place_row-start : goal.slice_bounds-place_row-start
slice_bounds-place_row-start c = omega (arith, bounds (goal.at.slice_bounds-place_row-start c).In-loop-row)

pub slice_bounds-place_row-end : goal.slice_bounds-place_row-end
slice_bounds-place_row-end c = omega (arith, bounds (goal.at.slice_bounds-place_row-end c).In-loop-row)

pub offset_bounds-x-from : goal.offset_bounds-x-from
offset_bounds-x-from c = omega (arith, bounds (goal.at.offset_bounds-x-from c).In-loop-row)

pub slice_bounds-place_row-count-in-loop-row : goal.slice_bounds-place_row-count-in-loop-row
slice_bounds-place_row-count-in-loop-row c = omega (arith, bounds (goal.at.slice_bounds-place_row-count-in-loop-row c).In-loop-row)

pub slice_bounds-place_row-start-in-loop-row : goal.slice_bounds-place_row-start-in-loop-row
slice_bounds-place_row-start-in-loop-row c = omega (arith, bounds (goal.at.slice_bounds-place_row-start-in-loop-row c).In-loop-row)

pub slice_bounds-place_row-end-in-loop-row : goal.slice_bounds-place_row-end-in-loop-row
slice_bounds-place_row-end-in-loop-row c = omega (arith, bounds (goal.at.slice_bounds-place_row-end-in-loop-row c).In-loop-row, c.loop-row.invariant.xs_length)

pub offset_bounds-wide-from : goal.offset_bounds-wide-from
offset_bounds-wide-from c = omega (arith, bounds (goal.at.offset_bounds-wide-from c).In-loop-row)

pub slice_bounds-place_row-count-in-loop-row-2 : goal.slice_bounds-place_row-count-in-loop-row-2
slice_bounds-place_row-count-in-loop-row-2 c = omega (arith, bounds (goal.at.slice_bounds-place_row-count-in-loop-row-2 c).In-loop-row)

pub slice_bounds-place_row-start-in-loop-row-2 : goal.slice_bounds-place_row-start-in-loop-row-2
slice_bounds-place_row-start-in-loop-row-2 c = omega (arith, bounds (goal.at.slice_bounds-place_row-start-in-loop-row-2 c).In-loop-row)

pub slice_bounds-place_row-end-in-loop-row-2 : goal.slice_bounds-place_row-end-in-loop-row-2
slice_bounds-place_row-end-in-loop-row-2 c = omega (arith, bounds (goal.at.slice_bounds-place_row-end-in-loop-row-2 c).In-loop-row, c.loop-row.invariant.wides_length)

pub place_row-requires : goal.place_row-requires
place_row-requires c =
    rows_row _ _ _ _ _ _ _ c.requires _ _ _ _ c.loop-row.invariant (less (goal.at.place_row-requires c).In-loop-row)

pub loop-row-preserved : goal.loop-row-preserved
loop-row-preserved c =
    rows_turn _ _ _ _ _ _ _ c.requires _ _ _ _ c.loop-row.invariant (less (goal.at.loop-row-preserved c).In-loop-row) _ _ c.place_row.ensures

pub returns : goal.returns
returns c = rows_stop _ _ _ _ _ _ _ c.requires _ _ _ _ c.loop-row.invariant (omega (arith, c.loop-row-test.false))
