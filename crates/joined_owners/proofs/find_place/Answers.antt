-- `joined_owners::find_place` meets its contract: a turn finds the entry in the next row, or passes that row.
use mathlib.Core.Path.{◌≡◌}
use Prim.Native.Nat.{ℕ, ◌-◌, ◌≤◌, ◌<◌, max}
use native.Mathlib.Omega.{arith}
use lib.ListN.{length}
use Rattle.grid_join.specs.inner.Reading.{end_at}
use Rattle.grid_join.proofs.Loop.{row_bounds}
use Rattle.grid_join.proofs.Reading.{part_narrow}
use Rattle.joined_owners.proofs.Finding.{part_length, sofar_found, sofar_turn, sofar_stop}
use Rattle.joined_owners.proofs.find_place.Goals as goal
use Rattle.joined_owners.proofs.find_place.Goals.{In-loop-i}

-- there is one more row
less : (c : In-loop-i) → c.loop-i.i < max (length c.args.left.rows.now) (length c.args.right.rows.now)
less c = omega (arith, c.loop-i-test.true, c.max-i-end.ensures)

-- the entries of the left row and of the right one
left_in : (c : In-loop-i) {to : ℕ} → to ≡ end_at c.args.left.rows.now c.loop-i.i c.loop-i.a → (c.loop-i.a ≤ to) × (to ≤ length c.args.left.entries.now)
left_in c p = row_bounds c.args.left.entries.now c.args.left.rows.now c.loop-i.i c.loop-i.invariant.left p

right_in : (c : In-loop-i) {to : ℕ} → to ≡ end_at c.args.right.rows.now c.loop-i.i c.loop-i.b → (c.loop-i.b ≤ to) × (to ≤ length c.args.right.entries.now)
right_in c q = row_bounds c.args.right.entries.now c.args.right.rows.now c.loop-i.i c.loop-i.invariant.right q

pub offset_bounds-left-a : goal.offset_bounds-left-a
offset_bounds-left-a c = omega (arith, left_in (goal.at.offset_bounds-left-a c).In-loop-i c.end_at-a_end.ensures, c.requires.left_readable.few_entries)

pub slice_bounds-l-count : goal.slice_bounds-l-count
slice_bounds-l-count c = omega (arith, left_in (goal.at.slice_bounds-l-count c).In-loop-i c.end_at-a_end.ensures)

pub slice_bounds-l-start : goal.slice_bounds-l-start
slice_bounds-l-start c = omega (arith, left_in (goal.at.slice_bounds-l-start c).In-loop-i c.end_at-a_end.ensures)

pub slice_bounds-l-end : goal.slice_bounds-l-end
slice_bounds-l-end c = omega (arith, left_in (goal.at.slice_bounds-l-end c).In-loop-i c.end_at-a_end.ensures)

pub offset_bounds-right-b : goal.offset_bounds-right-b
offset_bounds-right-b c = omega (arith, right_in (goal.at.offset_bounds-right-b c).In-loop-i c.end_at-b_end.ensures, c.requires.right_readable.few_entries)

pub slice_bounds-r-count : goal.slice_bounds-r-count
slice_bounds-r-count c = omega (arith, right_in (goal.at.slice_bounds-r-count c).In-loop-i c.end_at-b_end.ensures)

pub slice_bounds-r-start : goal.slice_bounds-r-start
slice_bounds-r-start c = omega (arith, right_in (goal.at.slice_bounds-r-start c).In-loop-i c.end_at-b_end.ensures)

pub slice_bounds-r-end : goal.slice_bounds-r-end
slice_bounds-r-end c = omega (arith, right_in (goal.at.slice_bounds-r-end c).In-loop-i c.end_at-b_end.ensures)

pub left_count-k-requires-clause-narrow : goal.left_count-k-requires-clause-narrow
left_count-k-requires-clause-narrow c = part_narrow c.loop-i.a (c.end_at-a_end.result - c.loop-i.a) c.args.left.entries.now c.requires.left_readable.narrow

pub in_row-requires-clause-left_bound : goal.in_row-requires-clause-left_bound
in_row-requires-clause-left_bound c =
    let w = left_in (goal.at.in_row-requires-clause-left_bound c).In-loop-i c.end_at-a_end.ensures in
    omega (arith, w, part_length c.args.left.entries.now w, c.requires.left_readable.few_entries)

pub in_row-requires-clause-right_bound : goal.in_row-requires-clause-right_bound
in_row-requires-clause-right_bound c =
    let w = right_in (goal.at.in_row-requires-clause-right_bound c).In-loop-i c.end_at-b_end.ensures in
    omega (arith, w, part_length c.args.right.entries.now w, c.requires.right_readable.few_entries)

pub returns-then-e-all : goal.returns-then-e-all
returns-then-e-all c =
    sofar_found c.args.left.columns c.args.right.columns c.args.left.entries.now c.args.left.rows.now c.args.right.entries.now c.args.right.rows.now c.args.entry
    c.loop-i.invariant (less (goal.at.returns-then-e-all c).In-loop-i) c.end_at-a_end.ensures c.end_at-b_end.ensures c.left_count-k.ensures
    c.right_count.ensures (omega (arith, c.if-e-all.true)) c.in_row.ensures

pub loop-i-preserved : goal.loop-i-preserved
loop-i-preserved c =
    sofar_turn c.args.left.columns c.args.right.columns c.args.left.entries.now c.args.left.rows.now c.args.right.entries.now c.args.right.rows.now c.args.entry
    c.loop-i.invariant (less (goal.at.loop-i-preserved c).In-loop-i) c.end_at-a_end.ensures c.end_at-b_end.ensures c.left_count-k.ensures
    c.right_count.ensures (omega (arith, c.if-e-all.false))

pub returns : goal.returns
returns c =
    sofar_stop c.args.left.columns c.args.right.columns c.args.left.entries.now c.args.left.rows.now c.args.right.entries.now c.args.right.rows.now c.args.entry
    c.loop-i.invariant (omega (arith, c.loop-i-test.false, c.max-i-end.ensures))
