-- `sheet_load::measuring::measure_table` meets its contract: the line of an opened sheet is a table, and what lies below it can be measured, in slices that are as
-- long as they were.
use mathlib.Core.Path.{refl, sym}
use native.Mathlib.Omega.{arith}
use lib.ListN.{length, take}
use lib.Seq.{length-take-le}
use Prim.Native.Nat.{◌≤◌}
use Rattle.sheet_load.specs.inner.Opened.{Apt}
use Rattle.sheet_load.specs.inner.Measures.{Measurable}
use Rattle.sheet_load.proofs.Measurable.{any_still, front_measurable, front_table, lent_any}
use Rattle.sheet_load.proofs.measuring.measure_table.Goals as goal
use Rattle.sheet_load.proofs.measuring.measure_table.Goals.{In_ok-n}

front : (c : In_ok-n) → (c.in_ok-n.n ≤ length c.open_sheet.new.lines) × Measurable (take c.in_ok-n.n c.open_sheet.new.lines) c.args.figures.now
front c = front_measurable c.open_sheet.ensures _ c.in_ok-n.was (omega (arith, c.requires.bytes_bound, c.open_sheet.auto.lines)) c.requires.bytes_in_bounds

apt : (c : In_ok-n) → Apt (take c.in_ok-n.n c.open_sheet.new.lines) c.args.line
apt c = front_table c.open_sheet.ensures refl _ c.in_ok-n.was

pub overflow_sub-at : goal.overflow_sub-at
overflow_sub-at c = (apt (goal.at.overflow_sub-at c).In_ok-n).from_one

pub slice_bounds-measure_below-end : goal.slice_bounds-measure_below-end
slice_bounds-measure_below-end c = (front (goal.at.slice_bounds-measure_below-end c).In_ok-n).0

pub slice_bounds-measure_below-end-2 : goal.slice_bounds-measure_below-end-2
slice_bounds-measure_below-end-2 c = sym (length-take-le _ _ (front (goal.at.slice_bounds-measure_below-end-2 c).In_ok-n).0)

pub measure_below-requires : goal.measure_below-requires
measure_below-requires c =
    let at = (goal.at.measure_below-requires c).In_ok-n in record {
      lent = lent_any (front at).1 (any_still c.open_sheet.auto.scratch c.requires.scratch_for_any);
      at_in_bounds = omega (arith, (apt at).from_one, (apt at).within);
      at_table = (apt at).kind;
    }
