-- `mark_rows` meets its contract. The loop's invariant (`RowsMarked`): the ends of the rows that are still to come and the edges of the
-- words make the set that the contract says, those rows fit, and no edge lies above `top`. A turn moves one row's ends, by what `mark`
-- ensures, none of which lies past the row's end. After the loop `count_words` gives each word that has an edge its count.
use mathlib.Core.Path.{◌≡◌, refl, sym, ap, subst, ◌∙◌}
use mathlib.Core.List.{List}
use Prim.Native.Nat.{ℕ, ◌-◌, ◌≤◌, ◌<◌, max}
use native.Mathlib.Omega.{arith}
use lib.ListN.{length, get_or, take, drop, length-map, get_or-map}
use Rattle.common.specs.Lists.{sum}
use Rattle.common.specs.Limits.{max_position}
use Rattle.records.specs.inner.NodeRecord.{no_row}
use Rattle.records.specs.inner.Figures.{row_end, row_ends_of, entry_span, entry_spans_of}
use Rattle.std.proofs.lemmas.List.{take-map, drop-map}
use Rattle.column_edges.specs.inner.Edges.{part}
use Rattle.column_edges.proofs.MarkLoop.{rows_start, rows_fit, rows_turn_by, rows_stop}
use Rattle.column_edges.proofs.mark_rows.Goals as goal
use Rattle.column_edges.proofs.mark_rows.Goals.{In-loop-row}

more : (c : In-loop-row) → c.loop-row.row-index < length (row_ends_of c.args.rows.now)
more c = omega (arith, length-map c.args.rows.now row_end, c.loop-row-test.true)

end_is : (c : In-loop-row) → get_or (row_ends_of c.args.rows.now) c.loop-row.row-index 0 ≡ (get_or c.args.rows.now c.loop-row.row-index no_row).end
end_is c = get_or-map row_end c.args.rows.now c.loop-row.row-index no_row

-- the row's entries lie within the entries
row_in : (c : In-loop-row) → let e = (get_or c.args.rows.now c.loop-row.row-index no_row).end in
    (c.loop-row.start ≤ e) × (e ≤ length c.args.entries.now)
row_in c =
    let f = rows_fit c.loop-row.invariant (more c) in
    (omega (arith, f.0, end_is c), omega (arith, f.1, end_is c, length-map c.args.entries.now entry_span))

part-here : (c : In-loop-row) → let e = (get_or c.args.rows.now c.loop-row.row-index no_row).end in
    entry_spans_of (take (e - c.loop-row.start) (drop c.loop-row.start c.args.entries.now)) ≡ part c.loop-row.start e (entry_spans_of c.args.entries.now)
part-here c =
    let a = c.loop-row.start in
    let xs = c.args.entries.now in
    let n = (get_or c.args.rows.now c.loop-row.row-index no_row).end - a in
    sym (ap (take n) (drop-map entry_span a xs) ∙ take-map entry_span n (drop a xs))

spans-here : (c : In-loop-row) →
    entry_spans_of (take ((get_or c.args.rows.now c.loop-row.row-index no_row).end - c.loop-row.start) (drop c.loop-row.start c.args.entries.now))
    ≡ part c.loop-row.start (get_or (row_ends_of c.args.rows.now) c.loop-row.row-index 0) (entry_spans_of c.args.entries.now)
spans-here c = part-here c ∙ ap (λ (t : ℕ). part c.loop-row.start t (entry_spans_of c.args.entries.now)) (sym (end_is c))

pub loop-row-init : goal.loop-row-init
loop-row-init c = rows_start _ _ _ c.requires.rows_fit c.requires.none_above

pub offset_bounds-entries-start : goal.offset_bounds-entries-start
offset_bounds-entries-start c = omega (arith, row_in (goal.at.offset_bounds-entries-start c).In-loop-row)

pub slice_bounds-mark-count : goal.slice_bounds-mark-count
slice_bounds-mark-count c = omega (arith, row_in (goal.at.slice_bounds-mark-count c).In-loop-row)

pub slice_bounds-mark-start : goal.slice_bounds-mark-start
slice_bounds-mark-start c = omega (arith, row_in (goal.at.slice_bounds-mark-start c).In-loop-row)

pub slice_bounds-mark-end : goal.slice_bounds-mark-end
slice_bounds-mark-end c = omega (arith, row_in (goal.at.slice_bounds-mark-end c).In-loop-row)

pub mark-last-requires : goal.mark-last-requires
mark-last-requires c =
    let here : In-loop-row = (goal.at.mark-last-requires c).In-loop-row in
    subst (λ (l : List ℕ). sum l ≤ max_position) (sym (spans-here here)) (rows_fit c.loop-row.invariant (more here)).2

pub loop-row-preserved : goal.loop-row-preserved
loop-row-preserved c =
    let here : In-loop-row = (goal.at.loop-row-preserved c).In-loop-row in
    let e = part-here here in
    rows_turn_by c.loop-row.invariant (more here) _ (end_is here) _ _ (c.max-top.ensures ∙ ap (max c.loop-row.top) (c.mark-last.ensures.ended ∙ ap sum e))
    (rw e at c.mark-last.ensures.marked)

pub count_words-requires : goal.count_words-requires
count_words-requires c =
    record {
      words_len = omega arith;
      top_le_max_position = c.loop-row.invariant.small;
      none_above = c.loop-row.invariant.none;
      counts_len = refl;
    }

pub returns : goal.returns
returns c = rows_stop c.loop-row.invariant (omega (arith, length-map c.args.rows.now row_end, c.loop-row-test.false))
