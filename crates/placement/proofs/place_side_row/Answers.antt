-- `placement::place_side_row` meets its contract. The loop's invariant, `Sides`: the entries before i are written, and those left are placed from
-- `start` on. An entry's columns lie within the row's, since it tiles them, so its part is there and its sum fits; the entry is written as the
-- definition places it, and `start` is where the definition goes on.
use mathlib.Core.Path.{◌≡◌}
use Prim.Native.Nat.{◌+◌, ◌-◌, ◌≤◌, ◌<◌}
use native.Mathlib.Omega.{arith}
use lib.ListN.{length, get_or, take, drop}
use Rattle.common.specs.Limits.{max_size}
use Rattle.common.specs.Lists.{sum}
use Rattle.records.specs.inner.NodeRecord.{no_entry}
use Rattle.placement.proofs.RowLoop.{side_start, side_columns, side_sum, side_capacity, side_turn, side_stop, part_sum}
use Rattle.placement.proofs.place_side_row.Goals as goal
use Rattle.placement.proofs.place_side_row.Goals.{After-total-total, In-loop-i}

-- there is one more entry
less : (c : In-loop-i) → c.loop-i.i < length c.args.entries.now
less c = omega (arith, c.loop-i-test.true, c.requires.xs_length)

-- its columns are there
inside : (c : In-loop-i) → let e = get_or c.args.entries.now c.loop-i.i no_entry in
    e.first + e.span ≤ length c.args.ws.now
inside c = side_columns _ _ _ _ c.requires c.loop-i.i (less c)

-- what `total` answers is their sum
sum_is : (c : After-total-total) → let e = get_or c.args.entries.now c.loop-i.i no_entry in
    c.total-total.result ≡ sum (take e.span (drop e.first c.args.ws.now))
sum_is c = part_sum _ _ _ _ _ _ c.total-total.ensures c.columns.ensures.start c.columns.ensures.end

-- the entry does not reach too far
capacity : (c : After-total-total) → c.loop-i.start + (c.total-total.result + (get_or c.args.entries.now c.loop-i.i no_entry).span) ≤ max_size + 1
capacity c =
    let l = c.loop-i in
    rw (sum_is c)
    (side_capacity _ _ _ _ c.requires l.x l.wide l.start l.i l.invariant (omega (arith, c.loop-i-test.true, c.requires.xs_length)))

pub loop-i-init : goal.loop-i-init
loop-i-init c = side_start _ _ _ _ c.requires

pub offset_bounds-ws-columns : goal.offset_bounds-ws-columns
offset_bounds-ws-columns c = omega (arith, inside (goal.at.offset_bounds-ws-columns c).In-loop-i)

pub slice_bounds-total-end : goal.slice_bounds-total-end
slice_bounds-total-end c = omega (arith, inside (goal.at.slice_bounds-total-end c).In-loop-i)

pub total-total-requires : goal.total-total-requires
total-total-requires c =
    let r = c.columns.result in
    omega (arith, side_sum _ _ _ _ c.requires r.start (r.end - r.start))

pub own_width-requires : goal.own_width-requires
own_width-requires c = omega (arith, capacity (goal.at.own_width-requires c).After-total-total)

pub next_start-start-requires : goal.next_start-start-requires
next_start-start-requires c = capacity (goal.at.next_start-start-requires c).After-total-total

pub loop-i-preserved : goal.loop-i-preserved
loop-i-preserved c =
    let l = c.loop-i in
    side_turn _ _ _ _ c.requires l.x l.wide l.start l.i l.invariant (less (goal.at.loop-i-preserved c).In-loop-i) _ _ _
    (sum_is (goal.at.loop-i-preserved c).After-total-total) c.own_width.ensures c.next_start-start.ensures

pub returns : goal.returns
returns c =
    let l = c.loop-i in
    side_stop _ _ _ _ c.requires l.x l.wide l.start l.i l.invariant
    (omega (arith, c.loop-i-test.false, l.invariant.xs_length, c.requires.xs_length))
