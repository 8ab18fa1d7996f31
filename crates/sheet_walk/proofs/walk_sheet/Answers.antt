-- `sheet_walk::walk_sheet` meets its contract: a sheet that is opened and measured can be walked, and a refusal is handed up.
use Rattle.std.proofs.Common.{rules, ◌≡◌, Err}
use mathlib.Core.Path.{sym}
use native.Mathlib.Omega.{arith}
use lib.ListN.{length, take}
use lib.Seq.{length-take-le}
use Prim.Native.Nat.{◌≤◌}
use Rattle.width_walk.specs.inner.Steps.{Walkable}
use Rattle.sheet_walk.proofs.Opening.{front, front_capacity, walk_refused, walk_accepted, walk_narrow}
use Rattle.sheet_walk.proofs.walk_sheet.Goals as goal
use Rattle.sheet_walk.proofs.walk_sheet.Goals.{In_ok-n}

walkable : (c : In_ok-n) → (c.in_ok-n.n ≤ length c.open_measured.new.lines) × Walkable (take c.in_ok-n.n c.open_measured.new.lines) c.open_measured.new.figures
walkable c =
    front c.open_measured.ensures (omega (arith, c.requires.sheet_bound, c.open_measured.auto.lines)) (omega (arith, c.requires.figures_in_bounds, c.open_measured.auto.figures)) _
    c.in_ok-n.was

pub returns-in_err-n : goal.returns-in_err-n
returns-in_err-n c =
    let q : c.from_residual.result ≡ Err c.in_err-n.field-0.0 = search rules in
    rw q (walk_refused c.open_measured.ensures c.in_err-n.was)

pub slice_bounds-m-end : goal.slice_bounds-m-end
slice_bounds-m-end c = (walkable (goal.at.slice_bounds-m-end c).In_ok-n).0

pub slice_bounds-m-end-2 : goal.slice_bounds-m-end-2
slice_bounds-m-end-2 c = sym (length-take-le _ _ (walkable (goal.at.slice_bounds-m-end-2 c).In_ok-n).0)

pub invariant_of-m : goal.invariant_of-m
invariant_of-m c = record { walkable = ∣ (walkable (goal.at.invariant_of-m c).In_ok-n).1 ∣₁ }

pub walk_lines-requires : goal.walk_lines-requires
walk_lines-requires c =
    front_capacity c.open_measured.ensures (omega (arith, c.requires.sheet_bound, c.open_measured.auto.lines)) (omega (arith, c.requires.figures_in_bounds, c.open_measured.auto.figures)) _
    c.requires.places_in_bounds _ c.in_ok-n.was

pub returns-in_err-walk_lines : goal.returns-in_err-walk_lines
returns-in_err-walk_lines c =
    let q : c.from_residual-in_err-walk_lines.result ≡ Err c.in_err-walk_lines.field-0.0 = search rules in
    rw q (walk_narrow c.open_measured.ensures _ c.in_ok-n.was (walkable (goal.at.returns-in_err-walk_lines c).In_ok-n).0 _ c.walk_lines.ensures c.in_err-walk_lines.was)

pub returns : goal.returns
returns c = walk_accepted c.open_measured.ensures _ c.in_ok-n.was (walkable (goal.at.returns c).In_ok-n).0 _ c.walk_lines.ensures c.in_ok-walk_lines.was
