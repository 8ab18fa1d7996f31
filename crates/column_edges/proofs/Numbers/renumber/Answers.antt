-- `renumber` meets its contract. The loop's invariant (`Sofar`): the records written, followed by the definition of what is left from this
-- position on, are the definition of the whole row; the records that are left stand as they stood; the position is an edge and the column its
-- number. A turn looks the entry's end up from there: at an edge its record is written anew, else the row is refused.
use mathlib.Core.Path.{◌≡◌, refl, sym, ◌∙◌}
use mathlib.Core.Bool.{true}
use Prim.Native.Nat.{ℕ, ◌+◌, ◌-◌, ◌≤◌, ◌<◌}
use native.Mathlib.Omega.{arith}
use lib.ListN.{length, get_or, length-set, length-map}
use Rattle.common.specs.Limits.{max_position}
use Rattle.records.specs.inner.NodeRecord.{no_entry}
use Rattle.records.specs.declared.Entry.{Entry}
use Rattle.records.specs.inner.Figures.{entry_span, entry_cells_of, entry_spans_of}
use Rattle.column_edges.specs.Edges.{count_below}
use Rattle.column_edges.specs.inner.Edges.{is_edge}
use Rattle.column_edges.proofs.RenumberLoop.{found, not_found, start, stop, turn, turn_at, turn_fits, turn_missing, entry_span_lem, entry_cell_lem}
use Rattle.column_edges.proofs.Numbers.renumber.Goals as goal
use Rattle.column_edges.proofs.Numbers.renumber.Goals.{In-loop-entry, In_ok-n}

-- an entry of the row is left, and stands there as it stood
here : (c : In-loop-entry) → c.loop-entry.entry-index < length (entry_spans_of c.args.entries.now)
here c = omega (arith, length-map c.args.entries.now entry_span, c.loop-entry-test.true, c.loop-entry.invariant.1)

span_is : (c : In-loop-entry) → get_or (entry_spans_of c.args.entries.now) c.loop-entry.entry-index 0 ≡ (get_or c.loop-entry.entries c.loop-entry.entry-index no_entry).span
span_is c = sym (entry_span_lem c.loop-entry.invariant.0 (omega (arith, c.loop-entry-test.true, c.loop-entry.invariant.1)))

cell_is : (c : In-loop-entry) → get_or (entry_cells_of c.args.entries.now) c.loop-entry.entry-index 0 ≡ (get_or c.loop-entry.entries c.loop-entry.entry-index no_entry).cell
cell_is c = sym (entry_cell_lem c.loop-entry.invariant.0 (omega (arith, c.loop-entry-test.true, c.loop-entry.invariant.1)))

-- the entry's end is an edge, and its number
at_edge : (c : In_ok-n) → let p = c.loop-entry.pos + (get_or c.loop-entry.entries c.loop-entry.entry-index no_entry).span in
    (is_edge c.args.self.now.words p ≡ true) × (c.in_ok-n.n ≡ count_below (is_edge c.args.self.now.words) p)
at_edge c = found _ _ _ (sym c.find_past.ensures ∙ c.in_ok-n.was)

-- its number is no less than the column, and no more than the last position
number_fits : (c : In-loop-entry) (n : ℕ) → let p = c.loop-entry.pos + (get_or c.loop-entry.entries c.loop-entry.entry-index no_entry).span in
    (is_edge c.args.self.now.words p ≡ true) × (n ≡ count_below (is_edge c.args.self.now.words) p) → (c.loop-entry.column ≤ n) × (n ≤ max_position)
number_fits c n e = turn_at c.loop-entry.invariant.0 (here c) _ (span_is c) _ e.0 e.1 c.requires.entries_bound

pub loop-entry-init : goal.loop-entry-init
loop-entry-init c = (start _ _ _ _ c.requires.words_value, refl)

pub find_past-requires-clause-s_bound : goal.find_past-requires-clause-s_bound
find_past-requires-clause-s_bound c =
    let k : In-loop-entry = (goal.at.find_past-requires-clause-s_bound c).In-loop-entry in
    turn_fits c.loop-entry.invariant.0 (here k) _ (span_is k) c.requires.entries_bound

pub returns-in_err-n : goal.returns-in_err-n
returns-in_err-n c =
    let k : In-loop-entry = (goal.at.returns-in_err-n c).In-loop-entry in
    rw c.from_residual.ensures (turn_missing c.loop-entry.invariant.0 (here k) _ (span_is k) (not_found _ _ (sym c.find_past.ensures ∙ c.in_err-n.was)) _)

pub overflow_cast-entry : goal.overflow_cast-entry
overflow_cast-entry c = omega (arith, number_fits (goal.at.overflow_cast-entry c).In-loop-entry _ (at_edge (goal.at.overflow_cast-entry c).In_ok-n))

pub overflow_sub-entry : goal.overflow_sub-entry
overflow_sub-entry c = (number_fits (goal.at.overflow_sub-entry c).In-loop-entry _ (at_edge (goal.at.overflow_sub-entry c).In_ok-n)).0

pub overflow_cast-entry-in-loop-entry : goal.overflow_cast-entry-in-loop-entry
overflow_cast-entry-in-loop-entry c = omega (arith, number_fits (goal.at.overflow_cast-entry-in-loop-entry c).In-loop-entry _ (at_edge (goal.at.overflow_cast-entry-in-loop-entry c).In_ok-n))

pub loop-entry-preserved : goal.loop-entry-preserved
loop-entry-preserved c =
    let k : In-loop-entry = (goal.at.loop-entry-preserved c).In-loop-entry in
    let e = at_edge (goal.at.loop-entry-preserved c).In_ok-n in
    let entry = get_or c.loop-entry.entries c.loop-entry.entry-index no_entry in
    let new : Entry = record { cell = entry.cell; first = c.loop-entry.column; span = c.in_ok-n.n - c.loop-entry.column } in (
      turn c.loop-entry.invariant.0 (here k) _ (span_is k) _ e.0 e.1 _ (cell_is k) (omega (arith, c.loop-entry-test.true, c.loop-entry.invariant.1)) _ refl,
      length-set c.loop-entry.entries c.loop-entry.entry-index new ∙ c.loop-entry.invariant.1,
    )

pub returns : goal.returns
returns c =
    let all = length-map c.args.entries.now entry_span in
    stop c.loop-entry.invariant.0 (omega (arith, all, c.loop-entry-test.false)) (omega (arith, c.loop-entry-test.false, c.loop-entry.invariant.1))
