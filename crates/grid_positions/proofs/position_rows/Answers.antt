-- `grid_positions::position_rows` merges the rows. The loop keeps: the rows done, with the rows of what is left of the table and of what
-- hangs now, are the table's rows, of which none ends past 4,096 and whose entries have places; those of the rows done are written, and the records of
-- the rows that are left say where their cells end. A turn merges the next row.
use mathlib.Core.Path.{◌≡◌, refl, sym, ◌∙◌}
use mathlib.Core.List.{[]}
use Prim.Native.Nat.{◌+◌, ◌-◌, ◌≤◌, ◌<◌}
use native.Mathlib.Omega.{arith}
use lib.ListN.{length, get_or, length-map, length-set, get_or-map}
use lib.Seq.{length-take-le, map-set, map-set_same}
use Rattle.records.specs.inner.NodeRecord.{no_row}
use Rattle.records.specs.declared.RowEnd.{RowEnd}
use Rattle.records.specs.inner.Figures.{row_line, row_end, row_ends_of, entry_cell, entry_span}
use Rattle.resolved_rows.proofs.Figures.{maps_still}
use Rattle.grid_row.specs.inner.Overhangs.{hung_left, hung_at, hung_span}
use Rattle.grid_positions.proofs.RowsLoop.{end_kept, start_bounds, start, stop, cells_in_lem, few_entries, ready, small, turn, turn_bounds}
use Rattle.grid_positions.proofs.Thirds.{carried_front, lefts_long, lefts_still, ats_still, wides_still}
use Rattle.grid_positions.proofs.position_rows.Goals as goal
use Rattle.grid_positions.proofs.position_rows.Goals.{In-loop-row}

more : (c : In-loop-row) → c.loop-row.row-index < length (row_ends_of c.args.rows.now)
more c = omega (arith, length-map c.args.rows.now row_end, c.loop-row-test.true)

-- where the next row's cells end is still in its record
end_is : (c : In-loop-row) → get_or (row_ends_of c.args.rows.now) c.loop-row.row-index 0 ≡ (get_or c.loop-row.rows c.loop-row.row-index no_row).end
end_is c = sym (end_kept (c.loop-row.invariant.1 [])) ∙ get_or-map row_end c.loop-row.rows c.loop-row.row-index no_row

pub loop-row-init : goal.loop-row-init
loop-row-init c = (start_bounds c.requires, start c.requires, record { rows_long = refl; entries_long = refl; overhang_long = refl; next_long = refl; lines_same = refl })

pub one_row-hangs-requires : goal.one_row-hangs-requires
one_row-hangs-requires c = ready c.requires c.loop-row.invariant.0 (more (goal.at.one_row-hangs-requires c).In-loop-row) _ (end_is (goal.at.one_row-hangs-requires c).In-loop-row) [] (c.loop-row.invariant.1 [])

pub slice_bounds-carry-end : goal.slice_bounds-carry-end
slice_bounds-carry-end c =
    let w = small c.requires c.loop-row.invariant.0 (more (goal.at.slice_bounds-carry-end c).In-loop-row) _ (end_is (goal.at.slice_bounds-carry-end c).In-loop-row) [] (c.loop-row.invariant.1 []) c.one_row-hangs.ensures in
    let e = cells_in_lem c.requires c.loop-row.invariant.0 (more (goal.at.slice_bounds-carry-end c).In-loop-row) _ (end_is (goal.at.slice_bounds-carry-end c).In-loop-row) in
    omega (arith, w, e.1, c.requires.next_left_capacity, length-map c.args.next.now hung_left, c.loop-row.invariant.2.next_long, c.one_row-hangs.auto.next)

pub slice_bounds-carry-end-in-loop-row : goal.slice_bounds-carry-end-in-loop-row
slice_bounds-carry-end-in-loop-row c =
    let w = small c.requires c.loop-row.invariant.0 (more (goal.at.slice_bounds-carry-end-in-loop-row c).In-loop-row) _ (end_is (goal.at.slice_bounds-carry-end-in-loop-row c).In-loop-row) [] (c.loop-row.invariant.1 []) c.one_row-hangs.ensures in
    let e = cells_in_lem c.requires c.loop-row.invariant.0 (more (goal.at.slice_bounds-carry-end-in-loop-row c).In-loop-row) _ (end_is (goal.at.slice_bounds-carry-end-in-loop-row c).In-loop-row) in
    sym (length-take-le _ c.one_row-hangs.new.next (omega (arith, w, e.1, c.requires.next_left_capacity, length-map c.args.next.now hung_left, c.loop-row.invariant.2.next_long, c.one_row-hangs.auto.next)))

pub carry-requires : goal.carry-requires
carry-requires c =
    let w = small c.requires c.loop-row.invariant.0 (more (goal.at.carry-requires c).In-loop-row) _ (end_is (goal.at.carry-requires c).In-loop-row) [] (c.loop-row.invariant.1 []) c.one_row-hangs.ensures in
    let e = cells_in_lem c.requires c.loop-row.invariant.0 (more (goal.at.carry-requires c).In-loop-row) _ (end_is (goal.at.carry-requires c).In-loop-row) in
    let h : c.one_row-hangs.result ≤ length c.one_row-hangs.new.next = omega (arith, w, e.1, c.requires.next_left_capacity, length-map c.args.next.now hung_left, c.loop-row.invariant.2.next_long, c.one_row-hangs.auto.next) in
    omega (arith, w, e.1, c.requires.left_capacity, lefts_long c.args.overhang.now, c.loop-row.invariant.2.overhang_long, length-take-le _ c.one_row-hangs.new.next h)

pub overflow_sub-n : goal.overflow_sub-n
overflow_sub-n c = (cells_in_lem c.requires c.loop-row.invariant.0 (more (goal.at.overflow_sub-n c).In-loop-row) _ (end_is (goal.at.overflow_sub-n c).In-loop-row)).0

pub overflow_add-n-in-loop-row : goal.overflow_add-n-in-loop-row
overflow_add-n-in-loop-row c = omega (arith, few_entries c.requires c.loop-row.invariant.0 (more (goal.at.overflow_add-n-in-loop-row c).In-loop-row) _ (end_is (goal.at.overflow_add-n-in-loop-row c).In-loop-row) [] (c.loop-row.invariant.1 []))

pub overflow_cast-row : goal.overflow_cast-row
overflow_cast-row c = omega (arith, few_entries c.requires c.loop-row.invariant.0 (more (goal.at.overflow_cast-row c).In-loop-row) _ (end_is (goal.at.overflow_cast-row c).In-loop-row) [] (c.loop-row.invariant.1 []))

pub loop-row-preserved : goal.loop-row-preserved
loop-row-preserved c =
    let z = c.loop-row.invariant.1 in
    let h = c.loop-row.invariant.2 in
    let o = c.one_row-hangs in
    let v = c.carry in
    let row = get_or c.loop-row.rows c.loop-row.row-index no_row in
    let new : RowEnd = record { line = row.line; end = c.loop-row.n + ((row.end - c.loop-row.first) + c.loop-row.k) } in
    let ended = map-set row_end c.loop-row.rows c.loop-row.row-index new in
    let oe = c.one_row-hangs.auto.entries in
    let on = c.one_row-hangs.auto.next in
    let vo = c.carry.auto.overhang in
    let w = small c.requires c.loop-row.invariant.0 (more (goal.at.loop-row-preserved c).In-loop-row) _ (end_is (goal.at.loop-row-preserved c).In-loop-row) [] (z []) o.ensures in
    let m = cells_in_lem c.requires c.loop-row.invariant.0 (more (goal.at.loop-row-preserved c).In-loop-row) _ (end_is (goal.at.loop-row-preserved c).In-loop-row) in
    let few : o.result ≤ length o.new.next = omega (arith, w, m.1, c.requires.next_left_capacity, length-map c.args.next.now hung_left, h.next_long, on) in (
      turn_bounds c.requires c.loop-row.invariant.0 (more (goal.at.loop-row-preserved c).In-loop-row) _ (end_is (goal.at.loop-row-preserved c).In-loop-row) [] (z []) c.one_row-hangs.ensures ended (maps_still entry_cell _ _ oe) (maps_still entry_span _ _ oe)
          (lefts_still c.carry.new.overhang c.loop-row.overhang vo) (ats_still c.carry.new.overhang c.loop-row.overhang vo) (wides_still c.carry.new.overhang c.loop-row.overhang vo)
          (maps_still hung_left _ _ on) (maps_still hung_at _ _ on) (maps_still hung_span _ _ on),
      (λ row_lines. turn c.requires c.loop-row.invariant.0 (more (goal.at.loop-row-preserved c).In-loop-row) _ (end_is (goal.at.loop-row-preserved c).In-loop-row) row_lines (z row_lines) c.one_row-hangs.ensures (carried_front o.new.next few c.carry.ensures) ended),
      record {
        rows_long = length-set c.loop-row.rows c.loop-row.row-index new ∙ h.rows_long;
        entries_long = oe ∙ h.entries_long;
        overhang_long = vo ∙ h.overhang_long;
        next_long = on ∙ h.next_long;
        lines_same = map-set_same row_line c.loop-row.rows c.loop-row.row-index new no_row refl ∙ h.lines_same;
      },
    )

pub returns-clause-made : goal.returns-clause-made
returns-clause-made c =
    let i = c.loop-row.invariant in
    λ row_lines. stop c.requires i.0 row_lines (i.1 row_lines) (omega (arith, length-map c.args.rows.now row_end, c.loop-row-test.false)) (length c.loop-row.rows) (i.2.rows_long ∙ sym (length-map c.args.rows.now row_end))
