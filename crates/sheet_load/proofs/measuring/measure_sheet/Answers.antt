-- `sheet_load::measuring::measure_sheet` meets its contract: an opened sheet can be measured, in slices that are as long as they were.
use mathlib.Core.Path.{sym}
use native.Mathlib.Omega.{arith}
use lib.ListN.{length, take}
use lib.Seq.{length-take-le}
use Prim.Native.Nat.{◌≤◌}
use Rattle.sheet_load.specs.inner.Measures.{Measurable}
use Rattle.sheet_load.proofs.Measurable.{any_still, front_measurable, lent_any}
use Rattle.sheet_load.proofs.measuring.measure_sheet.Goals as goal
use Rattle.sheet_load.proofs.measuring.measure_sheet.Goals.{In_ok-n}

front : (c : In_ok-n) → (c.in_ok-n.n ≤ length c.open_sheet.new.lines) × Measurable (take c.in_ok-n.n c.open_sheet.new.lines) c.args.figures.now
front c = front_measurable c.open_sheet.ensures _ c.in_ok-n.was (omega (arith, c.requires.bytes_bound, c.open_sheet.auto.lines)) c.requires.bytes_in_bounds

pub slice_bounds-measure-end : goal.slice_bounds-measure-end
slice_bounds-measure-end c = (front (goal.at.slice_bounds-measure-end c).In_ok-n).0

pub slice_bounds-measure-end-2 : goal.slice_bounds-measure-end-2
slice_bounds-measure-end-2 c = sym (length-take-le _ _ (front (goal.at.slice_bounds-measure-end-2 c).In_ok-n).0)

pub measure-requires : goal.measure-requires
measure-requires c = lent_any (front (goal.at.measure-requires c).In_ok-n).1 (any_still c.open_sheet.auto.scratch c.requires.scratch_for_any)
