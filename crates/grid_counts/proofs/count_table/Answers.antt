-- `grid_counts::count_table` meets its contract. The loop's invariant, `TableCounting`: what is counted, with the bodies from place i on, is the table.
use mathlib.Core.Path.{◌∙◌}
use Prim.Native.Nat.{◌<◌, ◌≤◌}
use native.Mathlib.Omega.{arith}
use lib.ListN.{get_or}
use Rattle.std.proofs.lemmas.Result.{err_from_is_err_and}
use Rattle.records.specs.NodeRecord.{no_node}
use Rattle.grid_counts.proofs.Scan.{past_lines}
use Rattle.grid_counts.proofs.TableLoop.{after_table, body_ready, table_start, table_stop, table_on, table_past, table_more}
use Rattle.grid_counts.proofs.count_table.Goals as goal
use Rattle.grid_counts.proofs.count_table.Goals.{then-line-d-2+in_ok-n, else-line-d-2, else-loop-i-test, then-loop-i-test+then-line-d}

pub loop-i-init : goal.loop-i-init
loop-i-init c = table_start _ _

pub count_body-requires : goal.count_body-requires
count_body-requires c = body_ready c.args.at c.requires.body_ready c.loop-i.invariant c.loop-i.auto.ends

pub returns-in_err-n : goal.returns-in_err-n
returns-in_err-n c =
    let p = err_from_is_err_and c.from_residual.result c.from_residual.ensures.1 in
    rw (p.1, p.2) (table_past c.loop-i.invariant (omega arith) (omega (arith, c.if-line-d-2.true)) c.count_body.ensures _ c.in_err-n.was)

pub loop-i-preserved : goal.loop-i-preserved
loop-i-preserved c =
    let deep : (get_or c.args.lines.now c.args.at no_node).depth < (get_or (after_table c.args.lines.now c.args.at) c.loop-i.i no_node).depth = omega arith in
    elim c.if-line-d-2.branch [
      | then-line-d-2+in_ok-n w ↦ rw w.n-is (table_more c.loop-i.invariant deep (omega (arith, w.if-line-d-2.true)) w.count_body.ensures _ w.in_ok-n.was)
      | else-line-d-2 w ↦ rw w.n-is (table_on c.loop-i.invariant deep (λ o. w.if-line-d-2.false (omega arith)))
    ]

pub returns : goal.returns
returns c =
    let rest = after_table c.args.lines.now c.args.at in
    let shallow : (get_or rest c.loop-i.i no_node).depth ≤ (get_or c.args.lines.now c.args.at no_node).depth =
    elim c.loop-i-test.branch [
      | else-loop-i-test w ↦
          omega (arith, past_lines rest c.loop-i.i (omega (arith, w.loop-i-test.false)))
      | then-loop-i-test+then-line-d w ↦ w.if-line-d.true
    ] in
    c.check_entries.ensures ∙ table_stop c.loop-i.invariant shallow
