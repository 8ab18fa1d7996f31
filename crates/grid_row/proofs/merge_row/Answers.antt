-- `merge_row` meets its contract. The loop's invariant (`Sofar`): the entries put so far, followed by the definition of the row from this
-- column on with what is left of the cells and of what hangs, are the whole row; they are written into the lent records, and end at the
-- column. A turn puts the next entry: the first hanging one where `due` says so, else the next cell; either is the head of the rest's
-- definition, and ends within position 4,096, since the whole row does.
use mathlib.Core.Path.{◌≡◌, ap, ◌∙◌}
use mathlib.Core.List.{List}
use Prim.Native.Nat.{◌+◌, ◌/◌, ◌<◌}
use native.Mathlib.Omega.{arith}
use lib.ListN.{length, length-map}
use Rattle.resolved_rows.specs.inner.Held.{cell_by, held_line}
use Rattle.records.specs.inner.Figures.{entry_cell}
use Rattle.resolved_rows.proofs.Figures.{length_figures}
use Rattle.grid_row.specs.Row.{Item, row_from, nexts}
use Rattle.grid_row.specs.inner.Row.{hanging, row_of}
use Rattle.grid_row.specs.inner.Overhangs.{hung_left}
use Rattle.grid_row.proofs.Steps.{hanging_length, put_rows, put_filler}
use Rattle.grid_row.proofs.MergeLoop.{start, turn, within, stop, cells_in, cells_count, roomy, held, hung, hung_there, hung_next, held_there, held_next}
use Rattle.grid_row.proofs.merge_row.Goals as goal
use Rattle.grid_row.proofs.merge_row.Goals.{In-loop-n, then-due, else-due}

capacity-here : (c : In-loop-n) → (c.loop-n.n < length c.loop-n.entries) × (c.loop-n.k < length c.loop-n.next)
capacity-here c =
    let r = c.requires.row_capacity in
    let z = c.loop-n.invariant in
    let n = length_figures 3 cell_by held_line c.args.cells.now in
    (omega (arith, n, r.lines, length-map c.args.entries.now entry_cell, c.loop-n.auto.entries), omega (arith, n, r.lefts, z.few, length-map c.args.next.now hung_left, c.loop-n.auto.next))

pub loop-n-init : goal.loop-n-init
loop-n-init c =
    let a = c.args in
    start _ _ _ _ _ _ _ (roomy a.cells.now a.left.now a.at.now a.wide.now c.requires.row_capacity)

pub overhang_in-o-requires : goal.overhang_in-o-requires
overhang_in-o-requires c =
    let a = c.args in
    let q = c.requires.at_len in
    let t : c.loop-n.h < length a.left.now =
    hung_there a.cells.now a.left.now a.at.now a.wide.now q.0 c.loop-n.pos c.loop-n.i c.loop-n.h c.loop-n.invariant.in_cells c.due.ensures c.if-due.true in
    (t, omega (arith, q.0), omega (arith, q.1))

pub put-k-requires : goal.put-k-requires
put-k-requires c = capacity-here (goal.at.put-k-requires c).In-loop-n

pub cell_at-c-requires : goal.cell_at-c-requires
cell_at-c-requires c =
    let a = c.args in
    held_there a.cells.now a.left.now a.at.now a.wide.now c.requires.at_len.0 c.loop-n.pos c.loop-n.i c.loop-n.h c.loop-n.invariant.in_cells c.due.ensures
    (omega (arith, c.loop-n.invariant.both, c.loop-n-test.true)) c.if-due.false

pub put-k-requires-else-due : goal.put-k-requires-else-due
put-k-requires-else-due c = capacity-here (goal.at.put-k-requires-else-due c).In-loop-n

pub loop-n-preserved : goal.loop-n-preserved
unfolding row_of
loop-n-preserved c =
    let a = c.args in
    let z = c.loop-n.invariant in
    let H = hanging a.left.now a.at.now a.wide.now in
    let C = cells_in a.cells.now in
    let capacity = roomy a.cells.now a.left.now a.at.now a.wide.now c.requires.row_capacity in
    let n = cells_count a.cells.now in
    elim c.if-due.branch [
      | then-due w ↦
          let next =
          hung_next a.cells.now a.left.now a.at.now a.wide.now c.requires.at_len.0 c.loop-n.pos c.loop-n.i c.loop-n.h z.in_cells c.due.ensures w.if-due.true w.overhang_in-o.result w.overhang_in-o.ensures in
          let there : c.loop-n.h < length a.left.now =
          hung_there a.cells.now a.left.now a.at.now a.wide.now c.requires.at_len.0 c.loop-n.pos c.loop-n.i c.loop-n.h z.in_cells c.due.ensures w.if-due.true in
          let fits = within H C _ _ _ _ _ capacity z (hung w.overhang_in-o.result) _ next c.requires.wide_bound in
          rw (w.entries-is, w.next-is, w.pos-is, w.k-is, w.i-is, w.h-is)
          (turn H C _ _ _ _ _ capacity z (hung w.overhang_in-o.result) c.loop-n.i (c.loop-n.h + 1) next fits (omega (arith, z.both)) z.in_cells
          (omega (arith, hanging_length a.left.now a.at.now a.wide.now)) (put_filler w.put-k.ensures))
      | else-due w ↦
          let more : c.loop-n.i + c.loop-n.h < length a.cells.now / 3 + length a.left.now = omega (arith, z.both, c.loop-n-test.true) in
          let next =
          held_next a.cells.now a.left.now a.at.now a.wide.now c.requires.at_len.0 c.loop-n.pos c.loop-n.i c.loop-n.h z.in_cells c.due.ensures more w.if-due.false w.cell_at-c.result w.cell_at-c.ensures in
          let there : c.loop-n.i < length a.cells.now / 3 =
          held_there a.cells.now a.left.now a.at.now a.wide.now c.requires.at_len.0 c.loop-n.pos c.loop-n.i c.loop-n.h z.in_cells c.due.ensures more w.if-due.false in
          let fits = within H C _ _ _ _ _ capacity z (held c.loop-n.pos w.cell_at-c.result) _ next c.requires.wide_bound in
          rw (w.entries-is, w.next-is, w.pos-is, w.k-is, w.i-is, w.h-is)
          (turn H C _ _ _ _ _ capacity z (held c.loop-n.pos w.cell_at-c.result) (c.loop-n.i + 1) c.loop-n.h next fits (omega (arith, z.both)) (omega (arith, n)) z.in_hanging
          (put_rows w.rows_taken-taken.ensures w.put-k-else-due.ensures))
    ]

pub returns : goal.returns
unfolding row_of
returns c =
    let a = c.args in
    let z = c.loop-n.invariant in
    let H = hanging a.left.now a.at.now a.wide.now in
    let C = cells_in a.cells.now in
    let e : z.done ≡ row_from 0 H C = stop H C _ _ _ _ _ (roomy a.cells.now a.left.now a.at.now a.wide.now c.requires.row_capacity) z (omega (arith, c.loop-n-test.false, cells_count a.cells.now, hanging_length a.left.now a.at.now a.wide.now)) in
    record { hangs = z.hanging_on ∙ ap (λ (xs : List Item). length (nexts xs)) e; written = rw e at z.written }
