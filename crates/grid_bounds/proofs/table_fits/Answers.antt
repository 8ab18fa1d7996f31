-- `grid_bounds::table_fits` meets its contract. The loop's invariant is `Bounding`; the line of a turn is the one that many places below the
-- table's (`line_below`).
use mathlib.Core.Path.{◌≡◌, ap, ◌∙◌}
use mathlib.Core.List.{List}
use Prim.Native.Nat.{ℕ, ◌+◌, ◌-◌, ◌<◌}
use native.Mathlib.Omega.{arith}
use lib.ListN.{length, get_or, take, drop, get_or-eq_default}
use Rattle.std.proofs.lemmas.List.{take_rest, get_or-drop}
use Rattle.records.specs.NodeRecord.{no_node}
use Rattle.records.specs.declared.NodeRecord.{NodeRecord}
use Rattle.grid_bounds.proofs.BoundLoop.{bound_stop, bound_body, bound_row, bound_cell, bound_deeper}
use Rattle.grid_bounds.proofs.table_fits.Goals as goal
use Rattle.grid_bounds.proofs.table_fits.Goals.{then-e-eq3+else-not-within_bounds, else-e-eq3+then-e-eq2, else-e-eq3+else-e-eq2+then-e-eq1, else-e-eq3+else-e-eq2+else-e-eq1}

line_below : (ks : List NodeRecord) (from i : ℕ) → get_or (take (length ks - from) (drop from ks)) i no_node ≡ get_or ks (from + i) no_node
line_below ks from i = rw (take_rest ks from) (get_or-drop from ks i no_node)

pub loop-line-preserved : goal.loop-line-preserved
loop-line-preserved c =
    let z = c.loop-line.invariant in
    let here = line_below c.args.lines.now (c.args.at + 1) c.loop-line.line-index in
    let down = ap (λ (k : NodeRecord). k.depth) here in
    let line = get_or c.args.lines.now (c.args.at + 1 + c.loop-line.line-index) no_node in
    let deep : (get_or c.args.lines.now c.args.at no_node).depth < line.depth = omega (arith, down) in
    let next : c.args.at + 1 + (c.loop-line.line-index + 1) ≡ c.args.at + 1 + c.loop-line.line-index + 1 = omega arith in
    elim c.if-e-eq3.branch [
      | then-e-eq3+else-not-within_bounds w ↦
          rw (w.hung-is, w.end-is, w.entries-is, next)
          (bound_cell z deep (omega (arith, down, w.if-e-eq3.true)) _ _ _ (w.from-cols.ensures ∙ ap (λ (k : NodeRecord). k.cols) here) (w.from-rows.ensures ∙ ap (λ (k : NodeRecord). k.rows) here) w.hung_by-hung.ensures (w.within_bounds.ensures w.if-not-within_bounds.false))
      | else-e-eq3+then-e-eq2 w ↦ rw (w.hung-is, w.end-is, w.entries-is, next) (bound_row z deep (omega (arith, down, w.if-e-eq2.true)))
      | else-e-eq3+else-e-eq2+then-e-eq1 w ↦ rw (w.hung-is, w.end-is, w.entries-is, next) (bound_body z deep (omega (arith, down, w.if-e-eq1.true)))
      | else-e-eq3+else-e-eq2+else-e-eq1 w ↦
          rw (w.hung-is, w.end-is, w.entries-is, next) (bound_deeper z deep (λ o. w.if-e-eq3.false (omega (arith, down, o))) (λ o. w.if-e-eq2.false (omega (arith, down, o))) (λ o. w.if-e-eq1.false (omega (arith, down, o))))
    ]

pub returns-after-loop-line : goal.returns-after-loop-line
returns-after-loop-line c =
    let i = c.args.at + 1 + c.loop-line.line-index in
    let none : get_or c.args.lines.now i no_node ≡ no_node =
    get_or-eq_default c.args.lines.now no_node {n = i} (omega arith) in
    λ _. bound_stop c.loop-line.invariant (omega (arith, ap (λ (k : NodeRecord). k.depth) none))

pub returns-then-line-d : goal.returns-then-line-d
returns-then-line-d c =
    let here = line_below c.args.lines.now (c.args.at + 1) c.loop-line.line-index in
    λ _. bound_stop c.loop-line.invariant (omega (arith, ap (λ (k : NodeRecord). k.depth) here))
