-- `mark` meets its contract. The loop's invariant (`Marked`): the ends that are still to come and the edges of the words make the set
-- that the contract says. A turn moves the first end from the one to the other, by what `insert` ensures.
use mathlib.Core.Path.{◌≡◌}
use Prim.Native.Nat.{◌≤◌, ◌<◌}
use native.Mathlib.Omega.{arith}
use lib.ListN.{length, get_or, length-map, get_or-map}
use Rattle.records.specs.inner.NodeRecord.{no_entry}
use Rattle.records.specs.inner.Figures.{entry_span, entry_spans_of}
use Rattle.column_edges.proofs.MarkLoop.{mark_fits, mark_turn_by, mark_ended, mark_stop}
use Rattle.column_edges.proofs.Edges.mark.Goals as goal
use Rattle.column_edges.proofs.Edges.mark.Goals.{After-loop-e, In-loop-e}

more : (c : In-loop-e) → c.loop-e.e-index < length (entry_spans_of c.args.entries.now)
more c = omega (arith, length-map c.args.entries.now entry_span, c.loop-e-test.true)

none_left : (c : After-loop-e) → length (entry_spans_of c.args.entries.now) ≤ c.loop-e.e-index
none_left c = omega (arith, length-map c.args.entries.now entry_span, c.loop-e-test.false)

span-is : (c : In-loop-e) → get_or (entry_spans_of c.args.entries.now) c.loop-e.e-index 0 ≡ (get_or c.args.entries.now c.loop-e.e-index no_entry).span
span-is c = get_or-map entry_span c.args.entries.now c.loop-e.e-index no_entry

pub insert-requires : goal.insert-requires
insert-requires c = omega (arith, mark_fits c.loop-e.invariant (more (goal.at.insert-requires c).In-loop-e), span-is (goal.at.insert-requires c).In-loop-e)

pub loop-e-preserved : goal.loop-e-preserved
loop-e-preserved c = mark_turn_by c.loop-e.invariant (more (goal.at.loop-e-preserved c).In-loop-e) _ (span-is (goal.at.loop-e-preserved c).In-loop-e) _ c.insert.ensures

pub returns : goal.returns
returns c =
    record {
      ended = mark_ended c.loop-e.invariant (none_left (goal.at.returns c).After-loop-e);
      marked = mark_stop c.loop-e.invariant (none_left (goal.at.returns c).After-loop-e);
    }
