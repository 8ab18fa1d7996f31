-- `owner_after` meets its contract. The loop's invariant, `Sofar`: what hangs, the cells to come and the entries to come follow.
use mathlib.Core.Path.{◌≡◌, sym, ap, ◌∙◌}
use Prim.Native.Nat.{◌/◌, ◌≤◌, ◌<◌}
use native.Mathlib.Omega.{arith}
use lib.ListN.{length, get_or, length-map}
use Rattle.std.specs.Prelude.{Some}
use Rattle.records.specs.inner.NodeRecord.{no_entry}
use Rattle.records.specs.inner.Figures.{row_line, row_end}
use Rattle.resolved_rows.specs.Listed.{table_rows}
use Rattle.resolved_rows.specs.inner.Listed.{all_cells}
use Rattle.resolved_rows.specs.inner.Held.{cell_by, held_line, held_span, held_rows}
use Rattle.resolved_rows.proofs.Figures.{length_figures}
use Rattle.grid_row.specs.inner.Row.{item_line}
use Rattle.grid.proofs.Rebuilt.{held_few, lined_ready}
use Rattle.owners.specs.declared.Hanging.{Hanging}
use Rattle.owners.proofs.Owners.{no_item}
use Rattle.owners.proofs.Tables.{table_items, table_follows, entry_in, entry_line, entries_few, filler_line, found_owner, listed_rows}
use Rattle.owners.proofs.OwnerLoop.{start, hung_in, hung_is, hung_filler, turn_hung, cell_in, turn_cell}
use Rattle.owners.proofs.owner_after.Goals as goal
use Rattle.owners.proofs.owner_after.Goals.{At-loop-e, In-loop-e, then-e-eq0, else-e-eq0}

pub list_rows-requires : goal.list_rows-requires
list_rows-requires c =
    let r = c.requires in
    let x = c.args.cells.now in
    let o = c.args.rows.now in
    let f = r.found in
    lined_ready f.lined f.within (omega (arith, f.lined.short, r.cell_capacity, length_figures 3 cell_by held_line x)) (omega (arith, f.lined.short, r.cell_capacity, length_figures 3 cell_by held_span x)) (omega (arith, f.lined.short, r.cell_capacity, length_figures 3 cell_by held_rows x))
    (omega (arith, f.lined.short, r.row_capacity, length-map o row_line)) (omega (arith, f.lined.short, r.row_capacity, length-map o row_end))

pub loop-e-init : goal.loop-e-init
loop-e-init c = start (table_follows c.args.lines.now c.args.at c.requires.found.lined)

-- ---- the next entry

less : (c : In-loop-e) → c.loop-e.e-index < length c.args.entries.now
less c = omega (arith, c.loop-e-test.true)

more : (c : In-loop-e) → c.loop-e.e-index < length (table_items c.args.lines.now c.args.at)
more c = entry_in c.args.lines.now c.args.at c.requires.found (omega (arith, less c))

room : (c : In-loop-e) → c.loop-e.e-index < length c.loop-e.hung
room c = omega (arith, less c, entries_few c.args.lines.now c.args.at c.requires.found, c.requires.hung_capacity, c.loop-e.auto.hung)

line : (c : In-loop-e) → (get_or c.args.entries.now c.loop-e.e-index no_entry).cell ≡ item_line (get_or (table_items c.args.lines.now c.args.at) c.loop-e.e-index no_item)
line c = entry_line c.args.lines.now c.args.at c.requires.found (less c)

-- a filler is the first of what hangs
hung : (c : In-loop-e) → (get_or c.args.entries.now c.loop-e.e-index no_entry).cell ≡ 0 → c.loop-e.h < length c.loop-e.hung
hung c e = omega (arith, hung_in c.loop-e.invariant (more c) (omega (arith, room c)) (sym (line c) ∙ e), c.loop-e.invariant.few, room c)

pub bounds-hung-h : goal.bounds-hung-h
bounds-hung-h c = hung (goal.at.bounds-hung-h c).In-loop-e c.if-e-eq0.true

pub bounds-hung-h-then-e-eq0 : goal.bounds-hung-h-then-e-eq0
bounds-hung-h-then-e-eq0 c = hung (goal.at.bounds-hung-h-then-e-eq0 c).In-loop-e c.if-e-eq0.true

pub put-k-requires : goal.put-k-requires
put-k-requires c = omega (arith, room (goal.at.put-k-requires c).In-loop-e, c.loop-e.invariant.few)

-- any other entry is the next cell
shown : (c : In-loop-e) → ¬ ((get_or c.args.entries.now c.loop-e.e-index no_entry).cell ≡ 0) → 1 ≤ item_line (get_or (table_items c.args.lines.now c.args.at) c.loop-e.e-index no_item)
shown c e = omega (arith, line c, e)

listed : (c : In-loop-e) → ¬ ((get_or c.args.entries.now c.loop-e.e-index no_entry).cell ≡ 0)
    → (c.loop-e.i < length (all_cells (table_rows c.args.lines.now c.args.at))) × (c.loop-e.i < length c.list_rows.new.cells / 3)
listed c e =
    let i = cell_in c.loop-e.invariant (more c) (omega (arith, room c)) (shown c e) in
    (i, omega (arith, i, held_few c.args.lines.now c.args.at, c.requires.found.lined.short, c.requires.cell_capacity, c.list_rows.auto.cells))

pub cell_at-c-requires : goal.cell_at-c-requires
cell_at-c-requires c = (listed (goal.at.cell_at-c-requires c).In-loop-e c.if-e-eq0.false).1

pub put-k-requires-else-e-eq0 : goal.put-k-requires-else-e-eq0
put-k-requires-else-e-eq0 c = omega (arith, room (goal.at.put-k-requires-else-e-eq0 c).In-loop-e, c.loop-e.invariant.few)

pub loop-e-preserved : goal.loop-e-preserved
loop-e-preserved c =
    let l = (goal.at.loop-e-preserved c).In-loop-e in
    let z = c.loop-e.invariant in
    elim c.if-e-eq0.branch [
      | then-e-eq0 w ↦
          rw (w.hung-is, w.i-is, w.h-is, w.k-is)
          (turn_hung z (more l) (omega (arith, room l)) (sym (line l) ∙ w.if-e-eq0.true) w.put-k.ensures)
      | else-e-eq0 w ↦
          let s = listed l w.if-e-eq0.false in
          rw (w.hung-is, w.i-is, w.h-is, w.k-is)
          (turn_cell z (more l) (omega (arith, room l)) (shown l w.if-e-eq0.false)
          (listed_rows c.list_rows.new.cells c.list_rows.ensures s.0 s.1 w.cell_at-c.ensures) (rw (line l) at w.put-k-else-e-eq0.ensures))
    ]

-- ---- the filler

last : (c : At-loop-e) → length c.args.entries.now ≤ c.loop-e.e-index → c.loop-e.e-index ≡ length c.args.entries.now
last c e = omega (arith, e, c.loop-e.auto.e-index-end)

in_items : (c : At-loop-e) → c.loop-e.e-index < length (table_items c.args.lines.now c.args.at)
in_items c = entry_in c.args.lines.now c.args.at c.requires.found c.loop-e.auto.e-index-end

in_hung : (c : At-loop-e) → c.loop-e.e-index < length c.loop-e.hung
in_hung c = omega (arith, c.loop-e.auto.e-index-end, entries_few c.args.lines.now c.args.at c.requires.found, c.requires.hung_capacity, c.loop-e.auto.hung)

pub bounds-hung-h-2 : goal.bounds-hung-h-2
bounds-hung-h-2 c =
    let l = (goal.at.bounds-hung-h-2 c).At-loop-e in
    let f = filler_line c.args.lines.now c.args.at c.requires.found (last l c.loop-e-test.false) in
    omega (arith, hung_in c.loop-e.invariant (in_items l) (omega (arith, in_hung l)) f, c.loop-e.invariant.few, in_hung l)

pub returns : goal.returns
returns c =
    let l = (goal.at.returns c).At-loop-e in
    let z = c.loop-e.invariant in
    let e = last l c.loop-e-test.false in
    let f = filler_line c.args.lines.now c.args.at c.requires.found e in
    found_owner c.args.lines.now c.args.at c.requires.found e (hung_filler z (in_items l) (omega (arith, in_hung l)) f)
    ∙ ap (λ (g : Hanging). Some g.owner) (sym (hung_is z (in_items l) (omega (arith, in_hung l)) f))
