-- `place_table` meets its contract. The listed records hold the table again (`rebuilt`), which has no more rows and cells than there are lines from
-- its own on, so its positions can be made, since it is sound and has places for its entries. Every slice keeps the length that it had.
use mathlib.Core.Path.{◌≡◌, sym, ap, ◌∙◌}
use mathlib.Core.List.{List, ◌++◌, map}
use Prim.Native.Nat.{ℕ, ◌+◌, ◌*◌, ◌-◌, ◌≤◌}
use native.Mathlib.Omega.{arith}
use lib.ListN.{length, take, drop, length-map, take-append-drop}
use lib.Seq.{length-take-le}
use Rattle.std.proofs.lemmas.List.{take-map}
use Rattle.records.specs.declared.RowEnd.{RowEnd}
use Rattle.resolved_rows.specs.declared.Cell.{Cell}
use Rattle.resolved_rows.specs.inner.Held.{figures, cell_by, held_line, held_span, held_rows}
use Rattle.records.specs.inner.Figures.{row_line, row_end, row_lines_of, entry_cell, entry_span}
use Rattle.resolved_rows.specs.Listed.{table_rows}
use Rattle.resolved_rows.specs.inner.Listed.{all_cells}
use Rattle.resolved_rows.proofs.Figures.{length_figures, figures_take}
use Rattle.grid_row.specs.inner.Overhangs.{hung_left, hung_at, hung_span}
use Rattle.grid_positions.proofs.Thirds.{lefts_long, ats_long, wides_long}
use Rattle.grid.proofs.Rebuilt.{map_front, held_few, listed_in, listed_ready, lined_ready}
use Rattle.grid.proofs.Judging.{placed_stands}
use Rattle.grid.proofs.place_table.Goals as goal
use Rattle.grid.proofs.place_table.Goals.{After-list_rows-listed}

-- there are no more rows and cells than lines, so they lie within the slices
few : (c : After-list_rows-listed) → length (table_rows c.args.lines.now c.args.at) + length (all_cells (table_rows c.args.lines.now c.args.at)) ≤ length c.args.lines.now - c.args.at
few c = held_few c.args.lines.now c.args.at

fits-cells : (c : After-list_rows-listed) → 3 * c.list_rows-listed.result.cells ≤ length c.list_rows-listed.new.cells
fits-cells c = omega (arith, listed_in c.list_rows-listed.ensures (few c), c.requires.capacity.cell_capacity, c.list_rows-listed.auto.cells)

fits-rows : (c : After-list_rows-listed) → c.list_rows-listed.result.rows ≤ length c.list_rows-listed.new.rows
fits-rows c = omega (arith, listed_in c.list_rows-listed.ensures (few c), c.requires.capacity.row_capacity, c.list_rows-listed.auto.rows)

cells-front : (c : After-list_rows-listed) (f : Cell → ℕ) → figures 3 cell_by f (take (3 * c.list_rows-listed.result.cells) c.list_rows-listed.new.cells) ≡ take c.list_rows-listed.result.cells (figures 3 cell_by f c.list_rows-listed.new.cells)
cells-front c f = figures_take 3 cell_by f (omega arith) c.list_rows-listed.result.cells c.list_rows-listed.new.cells (fits-cells c)

rows-front : (c : After-list_rows-listed) (f : RowEnd → ℕ) → map f (take (c.list_rows-listed.result.rows) c.list_rows-listed.new.rows) ≡ take c.list_rows-listed.result.rows (map f c.list_rows-listed.new.rows)
rows-front c f = sym (take-map f c.list_rows-listed.result.rows c.list_rows-listed.new.rows)

pub list_rows-listed-requires : goal.list_rows-listed-requires
list_rows-listed-requires c =
    let r = c.requires.capacity in
    let k = c.args.cells.now in
    let o = c.args.rows.now in
    lined_ready c.requires.lined c.requires.at_in_bounds (omega (arith, r.cell_capacity, length_figures 3 cell_by held_line k)) (omega (arith, r.cell_capacity, length_figures 3 cell_by held_span k)) (omega (arith, r.cell_capacity, length_figures 3 cell_by held_rows k))
    (omega (arith, r.row_capacity, length-map o row_line)) (omega (arith, r.row_capacity, length-map o row_end))

pub overflow_mul-n : goal.overflow_mul-n
overflow_mul-n c = omega (arith, fits-cells (goal.at.overflow_mul-n c).After-list_rows-listed)

pub slice_bounds-position_rows-end : goal.slice_bounds-position_rows-end
slice_bounds-position_rows-end c = fits-cells (goal.at.slice_bounds-position_rows-end c).After-list_rows-listed

pub slice_bounds-position_rows-end-2 : goal.slice_bounds-position_rows-end-2
slice_bounds-position_rows-end-2 c = sym (length-take-le _ _ (fits-cells (goal.at.slice_bounds-position_rows-end-2 c).After-list_rows-listed))

pub slice_bounds-position_rows-end-3 : goal.slice_bounds-position_rows-end-3
slice_bounds-position_rows-end-3 c = fits-rows (goal.at.slice_bounds-position_rows-end-3 c).After-list_rows-listed

pub slice_bounds-position_rows-end-4 : goal.slice_bounds-position_rows-end-4
slice_bounds-position_rows-end-4 c = sym (length-take-le _ _ (fits-rows (goal.at.slice_bounds-position_rows-end-4 c).After-list_rows-listed))

pub position_rows-requires : goal.position_rows-requires
position_rows-requires c =
    let r = c.requires.capacity in
    let x = c.list_rows-listed.new.cells in
    let y = c.list_rows-listed.new.rows in
    let n = c.list_rows-listed.result.cells in
    let m = c.list_rows-listed.result.rows in
    rw (cells-front (goal.at.position_rows-requires c).After-list_rows-listed held_line, cells-front (goal.at.position_rows-requires c).After-list_rows-listed held_span, cells-front (goal.at.position_rows-requires c).After-list_rows-listed held_rows, rows-front (goal.at.position_rows-requires c).After-list_rows-listed row_end)
    (listed_ready c.list_rows-listed.ensures (few (goal.at.position_rows-requires c).After-list_rows-listed) (omega (arith, c.requires.lined.short))
    (omega (arith, fits-cells (goal.at.position_rows-requires c).After-list_rows-listed, length_figures 3 cell_by held_line x)) (omega (arith, fits-cells (goal.at.position_rows-requires c).After-list_rows-listed, length_figures 3 cell_by held_span x)) (omega (arith, fits-cells (goal.at.position_rows-requires c).After-list_rows-listed, length_figures 3 cell_by held_rows x)) (omega (arith, fits-rows (goal.at.position_rows-requires c).After-list_rows-listed, length-map y row_end))
    c.requires.sound
    (omega (arith, r.entry_capacity, length-map c.args.entries.now entry_cell)) (omega (arith, r.entry_capacity, length-map c.args.entries.now entry_span))
    (omega (arith, r.overhang_capacity, lefts_long c.args.overhang.now)) (omega (arith, r.overhang_capacity, ats_long c.args.overhang.now)) (omega (arith, r.overhang_capacity, wides_long c.args.overhang.now))
    (omega (arith, r.next_capacity, length-map c.args.next.now hung_left)) (omega (arith, r.next_capacity, length-map c.args.next.now hung_at)) (omega (arith, r.next_capacity, length-map c.args.next.now hung_span)))

pub returns : goal.returns
returns c =
    let k = c.list_rows-listed.result.rows in
    let x = c.list_rows-listed.new.rows in
    let d = rw (cells-front (goal.at.returns c).After-list_rows-listed held_line, cells-front (goal.at.returns c).After-list_rows-listed held_span, cells-front (goal.at.returns c).After-list_rows-listed held_rows, rows-front (goal.at.returns c).After-list_rows-listed row_end) at (c.position_rows.ensures.made (row_lines_of x)) in
    placed_stands c.list_rows-listed.ensures d
    (map_front row_line k x _ ∙ ap (λ (l : List ℕ). l ++ drop k (row_lines_of x)) (c.position_rows.ensures.lined ∙ rows-front (goal.at.returns c).After-list_rows-listed row_line) ∙ take-append-drop k (row_lines_of x))
    (map_front row_end k x _)
