-- `grid_counts::survey` meets its contract. The loop's invariant, `Surveying`: what is counted, with the rows from place j on, is the body.
use Prim.Native.Nat.{◌+◌, ◌<◌}
use native.Mathlib.Omega.{arith}
use lib.ListN.{get_or}
use Rattle.records.specs.NodeRecord.{no_node}
use Rattle.grid_counts.proofs.Scan.{past_lines}
use Rattle.grid_counts.proofs.SumLoop.{sum_lent, survey_stop, survey_more, survey_on}
use Rattle.grid_counts.proofs.survey.Goals as goal
use Rattle.grid_counts.proofs.survey.Goals.{then-line-body-2, else-line-body-2}

pub loop-j-preserved : goal.loop-j-preserved
loop-j-preserved c =
    let t = c.requires in
    let z = c.loop-j.invariant in
    let deep : c.args.d + 1 < (get_or c.args.lines.now c.loop-j.j no_node).depth = omega arith in
    elim c.if-line-body-2.branch [
      | then-line-body-2 w ↦
          rw (w.ends-is, w.rows-is, w.most-is)
          (survey_more t z deep (omega (arith, w.if-line-body-2.true)) _ _ (sum_lent c.args.lines.now c.args.d (c.loop-j.j + 1) _ w.row_sum.ensures) w.max-most.ensures)
      | else-line-body-2 w ↦
          rw (w.ends-is, w.rows-is, w.most-is) (survey_on t z deep (λ o. w.if-line-body-2.false (omega arith)))
    ]

pub returns-after-loop-j : goal.returns-after-loop-j
returns-after-loop-j c =
    λ n. survey_stop c.requires c.loop-j.invariant n (omega (arith, past_lines c.args.lines.now c.loop-j.j (omega arith)))

pub returns-then-line-body : goal.returns-then-line-body
returns-then-line-body c = λ n. survey_stop c.requires c.loop-j.invariant n (omega arith)
