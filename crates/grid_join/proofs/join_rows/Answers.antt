-- `grid_join::join_rows` meets its contract: a turn writes the entries of both rows, and the row's record.
use mathlib.Core.Path.{◌≡◌}
use Prim.Native.Nat.{ℕ, ◌<◌, ◌≤◌, max}
use native.Mathlib.Omega.{arith}
use lib.ListN.{length}
use Rattle.grid_join.specs.inner.Reading.{end_at}
use Rattle.grid_join.proofs.Loop.{row_bounds, next_ready, next_fits, row_place, sofar_turn, sofar_stop}
use Rattle.grid_join.proofs.join_rows.Goals as goal
use Rattle.grid_join.proofs.join_rows.Goals.{In-loop-i}

-- there is one more row
less : (c : In-loop-i) → c.loop-i.i < max (length c.args.left.rows.now) (length c.args.right.rows.now)
less c = omega (arith, c.loop-i-test.true, c.max-i-end.ensures)

-- the entries of the left row and of the right one
left_in : (c : In-loop-i) {to : ℕ} → to ≡ end_at c.args.left.rows.now c.loop-i.i c.loop-i.l → (c.loop-i.l ≤ to) × (to ≤ length c.args.left.entries.now)
left_in c p = row_bounds c.args.left.entries.now c.args.left.rows.now c.loop-i.i c.loop-i.invariant.left p

right_in : (c : In-loop-i) {to : ℕ} → to ≡ end_at c.args.right.rows.now c.loop-i.i c.loop-i.r → (c.loop-i.r ≤ to) × (to ≤ length c.args.right.entries.now)
right_in c q = row_bounds c.args.right.entries.now c.args.right.rows.now c.loop-i.i c.loop-i.invariant.right q

pub offset_bounds-left-l : goal.offset_bounds-left-l
offset_bounds-left-l c = omega (arith, left_in (goal.at.offset_bounds-left-l c).In-loop-i c.end_at-l_end.ensures, c.requires.left_readable.few_entries)

pub slice_bounds-put_both-count : goal.slice_bounds-put_both-count
slice_bounds-put_both-count c = omega (arith, left_in (goal.at.slice_bounds-put_both-count c).In-loop-i c.end_at-l_end.ensures)

pub slice_bounds-put_both-start : goal.slice_bounds-put_both-start
slice_bounds-put_both-start c = omega (arith, left_in (goal.at.slice_bounds-put_both-start c).In-loop-i c.end_at-l_end.ensures)

pub slice_bounds-put_both-end : goal.slice_bounds-put_both-end
slice_bounds-put_both-end c = omega (arith, left_in (goal.at.slice_bounds-put_both-end c).In-loop-i c.end_at-l_end.ensures)

pub offset_bounds-right-r : goal.offset_bounds-right-r
offset_bounds-right-r c = omega (arith, right_in (goal.at.offset_bounds-right-r c).In-loop-i c.end_at-r_end.ensures, c.requires.right_readable.few_entries)

pub slice_bounds-put_both-count-in-loop-i : goal.slice_bounds-put_both-count-in-loop-i
slice_bounds-put_both-count-in-loop-i c = omega (arith, right_in (goal.at.slice_bounds-put_both-count-in-loop-i c).In-loop-i c.end_at-r_end.ensures)

pub slice_bounds-put_both-start-in-loop-i : goal.slice_bounds-put_both-start-in-loop-i
slice_bounds-put_both-start-in-loop-i c = omega (arith, right_in (goal.at.slice_bounds-put_both-start-in-loop-i c).In-loop-i c.end_at-r_end.ensures)

pub slice_bounds-put_both-end-in-loop-i : goal.slice_bounds-put_both-end-in-loop-i
slice_bounds-put_both-end-in-loop-i c = omega (arith, right_in (goal.at.slice_bounds-put_both-end-in-loop-i c).In-loop-i c.end_at-r_end.ensures)

pub put_both-n-requires-clause-both_ready : goal.put_both-n-requires-clause-both_ready
put_both-n-requires-clause-both_ready c =
    next_ready c.args.left.columns c.args.right.columns c.args.left.entries.now c.args.left.rows.now c.args.right.entries.now c.args.right.rows.now
    c.loop-i.invariant (less (goal.at.put_both-n-requires-clause-both_ready c).In-loop-i) c.end_at-l_end.ensures c.end_at-r_end.ensures
    c.requires.left_readable c.requires.right_readable c.requires.capacity

pub overflow_cast-rows : goal.overflow_cast-rows
overflow_cast-rows c =
    let w =
    next_fits c.args.left.columns c.args.right.columns c.args.left.entries.now c.args.left.rows.now c.args.right.entries.now c.args.right.rows.now
    c.loop-i.invariant (less (goal.at.overflow_cast-rows c).In-loop-i) c.end_at-l_end.ensures c.end_at-r_end.ensures in
    omega (arith, w, c.put_both-n.ensures.count, c.requires.capacity.few)

pub bounds-rows-i : goal.bounds-rows-i
bounds-rows-i c =
    row_place c.args.left.columns c.args.right.columns c.args.left.entries.now c.args.left.rows.now c.args.right.entries.now c.args.right.rows.now
    c.loop-i.invariant (less (goal.at.bounds-rows-i c).In-loop-i) c.end_at-l_end.ensures c.end_at-r_end.ensures c.requires.capacity

pub loop-i-preserved : goal.loop-i-preserved
loop-i-preserved c =
    sofar_turn c.args.left.columns c.args.right.columns c.args.left.entries.now c.args.left.rows.now c.args.right.entries.now c.args.right.rows.now
    c.loop-i.invariant (less (goal.at.loop-i-preserved c).In-loop-i) c.end_at-l_end.ensures c.end_at-r_end.ensures c.requires.capacity
    c.put_both-n.auto.entries c.put_both-n.ensures c.line_at-line.ensures

pub returns : goal.returns
returns c =
    sofar_stop c.args.left.columns c.args.right.columns c.args.left.entries.now c.args.left.rows.now c.args.right.entries.now c.args.right.rows.now
    c.loop-i.invariant (omega (arith, c.loop-i-test.false, c.max-i-end.ensures))
