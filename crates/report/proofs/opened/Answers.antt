-- `report::opened` meets its contract: the lines that are read are the first of their array and can be walked (`lines_front`), and a sheet that was walked can
-- be listed (`narrow`).
use mathlib.Core.Path.{sym}
use Prim.Native.Nat.{◌≤◌}
use native.Mathlib.Omega.{arith}
use lib.ListN.{length, take}
use lib.Seq.{length-take-le}
use Rattle.width_walk.specs.inner.Steps.{Walkable}
use Rattle.report.proofs.Ready.{lines_front, narrow}
use Rattle.report.proofs.opened.Goals as goal
use Rattle.report.proofs.opened.Goals.{In_ok-n}

front : (c : In_ok-n) → (c.in_ok-n.n ≤ length c.walk_sheet.new.lines) × Walkable (take c.in_ok-n.n c.walk_sheet.new.lines) c.walk_sheet.new.figures
front c = lines_front c.walk_sheet.ensures c.in_ok-n.was (omega arith) (omega arith)

pub slice_bounds-kept-end : goal.slice_bounds-kept-end
slice_bounds-kept-end c = (front (goal.at.slice_bounds-kept-end c).In_ok-n).0

pub slice_bounds-measured-end : goal.slice_bounds-measured-end
slice_bounds-measured-end c = sym (length-take-le _ _ (front (goal.at.slice_bounds-measured-end c).In_ok-n).0)

pub invariant_of-measured : goal.invariant_of-measured
invariant_of-measured c = record { walkable = ∣ (front (goal.at.invariant_of-measured c).In_ok-n).1 ∣₁ }

pub invariant_of-w : goal.invariant_of-w
invariant_of-w c = record { narrow = narrow c.walk_sheet.ensures c.in_ok-n.was (front (goal.at.invariant_of-w c).In_ok-n).0 (omega arith) }
