-- `grid_positions::one_row` lends `merge_row` the parts of the slices that are the row's. What the rest of the entries is written over when it comes back,
-- the entries are written over from the row's place on.
use mathlib.Core.Path.{◌≡◌, sym, ap, ◌∙◌}
use mathlib.Core.List.{map}
use Prim.Native.Nat.{ℕ, ◌*◌, ◌-◌, ◌≤◌}
use native.Mathlib.Omega.{arith}
use lib.ListN.{length, take, drop, length-drop, length-map}
use lib.Seq.{length-take-le}
use Rattle.records.specs.declared.Entry.{Entry}
use Rattle.resolved_rows.specs.declared.Cell.{Cell}
use Rattle.resolved_rows.specs.inner.Held.{figures, cell_by, held_line, held_span, held_rows, lines_of, spans_of, rowspans_of}
use Rattle.records.specs.inner.Figures.{entry_cell, entry_span}
use Rattle.resolved_rows.specs.inner.Spans.{part}
use Rattle.resolved_rows.proofs.Figures.{length_figures, figures_part}
use Rattle.grid_row.specs.inner.Overhangs.{third, lefts_in, ats_in, wides_in}
use Rattle.grid_row.specs.Row.{item_span}
use Rattle.grid_row.specs.inner.Row.{item_line}
use Rattle.grid_positions.specs.inner.Slices.{row_at}
use Rattle.grid_positions.proofs.OverAt.{part_length, rest_map, over_map}
use Rattle.grid_positions.proofs.Thirds.{lefts_long, lefts_here, ats_here, wides_here}
use Rattle.grid_positions.proofs.one_row.Goals as goal
use Rattle.grid_positions.proofs.one_row.Goals.{Start}

-- the row's cells, what hangs into it and its entries lie within the slices
within : (c : Start) → (c.args.first ≤ c.args.end) × (3 * c.args.end ≤ length c.args.cells.now) × (c.args.k ≤ third c.args.overhang.now) × (c.args.n ≤ length c.args.entries.now)
within c = (
  c.requires.rises,
  omega (arith, c.requires.lines_in_fits, length_figures 3 cell_by held_line c.args.cells.now),
  omega (arith, c.requires.left_in, lefts_long c.args.overhang.now),
  omega (arith, c.requires.line_capacity, length-map c.args.entries.now entry_cell),
)

cells_here : (c : Start) (f : Cell → ℕ) → figures 3 cell_by f (take (3 * c.args.end - 3 * c.args.first) (drop (3 * c.args.first) c.args.cells.now)) ≡ part c.args.first c.args.end (figures 3 cell_by f c.args.cells.now)
cells_here c f = figures_part 3 cell_by f (omega arith) c.args.first c.args.end c.args.cells.now (within c).0 (within c).1

rest-count : (c : Start) (f : Entry → ℕ) → length (map f (take (length c.args.entries.now - c.args.n) (drop c.args.n c.args.entries.now))) ≡ length (map f c.args.entries.now) - c.args.n
rest-count c f = ap length (rest_map f c.args.n c.args.entries.now (within c).3) ∙ length-drop c.args.n (map f c.args.entries.now)

pub merge_row-requires : goal.merge_row-requires
unfolding row_at
merge_row-requires c =
    let a = c.args in
    let q = c.requires in
    let o = a.overhang.now in
    let h = (within (goal.at.merge_row-requires c).Start).2 in
    let il = ap length (cells_here (goal.at.merge_row-requires c).Start held_line) ∙ part_length a.first a.end (lines_of a.cells.now) q.rises q.lines_in_fits in
    let hl = ap length (lefts_here o a.k h) ∙ length-take-le a.k (lefts_in o) q.left_in in
    let ha = ap length (ats_here o a.k h) ∙ length-take-le a.k (ats_in o) q.at_in in
    let hw = ap length (wides_here o a.k h) ∙ length-take-le a.k (wides_in o) q.wide_in in
    let capacity = rest-count (goal.at.merge_row-requires c).Start in record {
      at_len = (ha ∙ sym hl, hw ∙ sym hl);
      row_capacity = record {
        lines = omega (arith, il, hl, capacity entry_cell, length-map a.entries.now entry_cell, q.line_capacity);
        spans = omega (arith, il, hl, capacity entry_span, length-map a.entries.now entry_span, q.span_capacity);
        lefts = omega (arith, il, hl, q.next_left_capacity);
        ats = omega (arith, il, hl, q.next_at_capacity);
        wides = omega (arith, il, hl, q.next_wide_capacity);
      };
      wide_bound = rw (cells_here (goal.at.merge_row-requires c).Start held_line, cells_here (goal.at.merge_row-requires c).Start held_span, cells_here (goal.at.merge_row-requires c).Start held_rows, lefts_here o a.k h, ats_here o a.k h, wides_here o a.k h) q.ends;
    }

pub returns : goal.returns
unfolding row_at
returns c =
    let a = c.args in
    let o = a.overhang.now in
    let h = (within (goal.at.returns c).Start).2 in
    let m = rw (cells_here (goal.at.returns c).Start held_line, cells_here (goal.at.returns c).Start held_span, cells_here (goal.at.returns c).Start held_rows, lefts_here o a.k h, ats_here o a.k h, wides_here o a.k h) at c.merge_row.ensures in
    let xs = row_at (lines_of a.cells.now) (spans_of a.cells.now) (rowspans_of a.cells.now) a.first a.end (lefts_in o) (ats_in o) (wides_in o) a.k in
    record {
      hangs = m.hangs;
      written = let w = m.written in record {
        lines = over_map entry_cell a.n a.entries.now (within (goal.at.returns c).Start).3 (map item_line xs) _ w.lines;
        spans = over_map entry_span a.n a.entries.now (within (goal.at.returns c).Start).3 (map item_span xs) _ w.spans;
        lefts = w.lefts;
        ats = w.ats;
        wides = w.wides;
      };
    }
