-- `grid_bounds::whole::sheet_fits` meets its contract. The loop's invariant is `SheetLoop`.
use mathlib.Core.Path.{sym, ◌∙◌}
use Prim.Native.Nat.{◌<◌}
use native.Mathlib.Omega.{arith}
use lib.ListN.{length}
use Rattle.grid_bounds.proofs.SheetLoop.{sheet_stop, sheet_other, sheet_cell}
use Rattle.grid_bounds.proofs.whole.sheet_fits.Goals as goal
use Rattle.grid_bounds.proofs.whole.sheet_fits.Goals.{then-eq+else-not-within_bounds, else-eq}

pub loop-line-preserved : goal.loop-line-preserved
loop-line-preserved c =
    let z = c.loop-line.invariant in
    let here : c.loop-line.line-index < length c.args.lines.now = omega arith in
    elim c.if-eq.branch [
      | then-eq+else-not-within_bounds w ↦
          rw (w.end-is, w.entries-is) (sheet_cell z here (sym c.eq.ensures ∙ w.if-eq.true) _ _ w.from-cols.ensures w.from-rows.ensures (w.within_bounds.ensures w.if-not-within_bounds.false))
      | else-eq w ↦ rw (w.end-is, w.entries-is) (sheet_other z here (sym c.eq.ensures ∙ w.if-eq.false))
    ]

pub returns : goal.returns
returns c = λ _. sheet_stop c.loop-line.invariant (omega arith)
