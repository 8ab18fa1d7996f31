-- `grid_join::short_rows` meets its contract: a row's end is where its entries end, and a turn counts it if it is short.
use Prim.Native.Nat.{◌-◌, ◌<◌, ◌≤◌}
use native.Mathlib.Omega.{arith}
use lib.ListN.{length, get_or}
use Rattle.records.specs.inner.NodeRecord.{no_row}
use Rattle.grid_join.proofs.Loop.{counted_bounds, counted_turn, counted_stop}
use Rattle.grid_join.proofs.Reading.{part_narrow}
use Rattle.grid_join.proofs.short_rows.Goals as goal
use Rattle.grid_join.proofs.short_rows.Goals.{In-loop-row}

-- there is one more row, and its entries
less : (c : In-loop-row) → c.loop-row.row-index < length c.args.left.rows.now
less c = omega (arith, c.loop-row-test.true)

bounds : (c : In-loop-row) → (c.loop-row.from ≤ (get_or c.args.left.rows.now c.loop-row.row-index no_row).end)
    × ((get_or c.args.left.rows.now c.loop-row.row-index no_row).end ≤ length c.args.left.entries.now)
bounds c = counted_bounds c.args.left.columns c.args.left.entries.now c.args.left.rows.now c.loop-row.invariant (less c)

pub offset_bounds-left-from : goal.offset_bounds-left-from
offset_bounds-left-from c = omega (arith, bounds (goal.at.offset_bounds-left-from c).In-loop-row, c.requires.readable.few_entries)

pub slice_bounds-short-count : goal.slice_bounds-short-count
slice_bounds-short-count c = omega (arith, bounds (goal.at.slice_bounds-short-count c).In-loop-row)

pub slice_bounds-short-start : goal.slice_bounds-short-start
slice_bounds-short-start c = omega (arith, bounds (goal.at.slice_bounds-short-start c).In-loop-row)

pub slice_bounds-short-end : goal.slice_bounds-short-end
slice_bounds-short-end c = omega (arith, bounds (goal.at.slice_bounds-short-end c).In-loop-row)

pub short-n-requires : goal.short-n-requires
short-n-requires c =
    part_narrow c.loop-row.from ((get_or c.args.left.rows.now c.loop-row.row-index no_row).end - c.loop-row.from) c.args.left.entries.now c.requires.readable.narrow

pub loop-row-preserved : goal.loop-row-preserved
loop-row-preserved c =
    counted_turn c.args.left.columns c.args.left.entries.now c.args.left.rows.now c.loop-row.invariant (less (goal.at.loop-row-preserved c).In-loop-row)
    c.short-n.ensures

pub returns : goal.returns
returns c =
    counted_stop c.args.left.columns c.args.left.entries.now c.args.left.rows.now c.loop-row.invariant (omega (arith, c.loop-row-test.false))
