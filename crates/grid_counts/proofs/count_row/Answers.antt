-- `grid_counts::count_row` meets its contract. The loop's invariant, `Counting`: what is counted, with what the cells from the next line on add, is what the row adds.
use Prim.Native.Nat.{◌+◌, ◌<◌}
use native.Mathlib.Omega.{arith}
use lib.ListN.{get_or}
use Rattle.records.specs.NodeRecord.{no_node}
use Rattle.grid_counts.proofs.Scan.{past_lines}
use Rattle.grid_counts.proofs.RowLoop.{filled_at, row_stop, row_on, row_past, row_more}
use Rattle.grid_counts.proofs.count_row.Goals as goal
use Rattle.grid_counts.proofs.count_row.Goals.{then-line-row-2+else-sum-gt-MAX_POSITION, else-line-row-2}

pub returns-then-sum-gt-MAX_POSITION : goal.returns-then-sum-gt-MAX_POSITION
returns-then-sum-gt-MAX_POSITION c =
    λ n. row_past c.requires c.loop-line.invariant (omega arith) (omega (arith, c.if-line-row-2.true)) _ (filled_at (rw c.from-cols.ensures at c.filled-wide.ensures)) n
    (omega (arith, c.if-sum-gt-MAX_POSITION.true)) _

pub loop-line-preserved : goal.loop-line-preserved
loop-line-preserved c =
    let t = c.requires in
    let z = c.loop-line.invariant in
    let deep : c.args.d + 2 < (get_or c.args.lines.now c.loop-line.line-index no_node).depth = omega arith in
    elim c.if-line-row-2.branch [
      | then-line-row-2+else-sum-gt-MAX_POSITION w ↦
          rw (w.ends-is, w.sum-is, w.n-is, w.widen.ensures)
          (row_more t z deep (omega (arith, w.if-line-row-2.true)) _ (filled_at (rw w.from-cols.ensures at w.filled-wide.ensures)) (omega (arith, w.if-sum-gt-MAX_POSITION.false))
          _ (rw w.from-rows.ensures at w.hangs_within-hangs.ensures) _ w.added-n.ensures)
      | else-line-row-2 w ↦ rw (w.ends-is, w.sum-is, w.n-is) (row_on t z deep (λ o. w.if-line-row-2.false (omega arith)))
    ]

pub returns-after-loop-line : goal.returns-after-loop-line
returns-after-loop-line c =
    λ n. row_stop c.requires c.loop-line.invariant n (omega (arith, past_lines c.args.lines.now c.loop-line.line-index (omega arith)))

pub returns-then-line-row : goal.returns-then-line-row
returns-then-line-row c = λ n. row_stop c.requires c.loop-line.invariant n (omega arith)
