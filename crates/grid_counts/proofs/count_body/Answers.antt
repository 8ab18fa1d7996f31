-- `grid_counts::count_body` meets its contract. The loop's invariant, `BodyCounting`: what is counted, with the rows from place j on, is the body.
use Prim.Native.Nat.{◌+◌, ◌-◌, ◌<◌, ◌≤◌}
use native.Mathlib.Omega.{arith}
use lib.ListN.{length, get_or}
use borrow.Rule.Slice.PartMut.{same_len_mid}
use Rattle.std.proofs.lemmas.Result.{err_from_is_err_and}
use Rattle.records.specs.NodeRecord.{no_node}
use Rattle.grid_counts.proofs.Scan.{past_lines}
use Rattle.grid_counts.proofs.BodyLoop.{body_start, body_stop, body_on, some_left, sum_small, row_ready, body_refused, here_small, body_more}
use Rattle.grid_counts.proofs.count_body.Goals as goal
use Rattle.grid_counts.proofs.count_body.Goals.{After-row_sum, then-line-body-2+in_ok-counted, else-line-body-2}

pub loop-j-init : goal.loop-j-init
loop-j-init c = body_start c.requires.few c.survey-rows.ensures

-- a row is left, its sum is no more than the largest, and that is small
row_here : (c : After-row_sum) → (c.loop-j.q < c.survey-rows.result.rows) × (c.row_sum.result ≤ c.survey-rows.result.most)
row_here c =
    let s = c.survey-rows.ensures 0 in (
      some_left c.requires.lines s.small s.few s.capacity c.loop-j.invariant (omega arith) (omega (arith, c.if-line-body-2.true)) _ c.row_sum.ensures,
      sum_small c.requires.lines s.small s.few s.capacity c.loop-j.invariant (omega arith) (omega (arith, c.if-line-body-2.true)) _ c.row_sum.ensures,
    )

pub overflow_sub-instead : goal.overflow_sub-instead
overflow_sub-instead c = (row_here (goal.at.overflow_sub-instead c).After-row_sum).1

pub overflow_add-instead : goal.overflow_add-instead
overflow_add-instead c = omega (arith, (c.survey-rows.ensures 0).small)

pub overflow_sub-left : goal.overflow_sub-left
overflow_sub-left c = omega (arith, row_here (goal.at.overflow_sub-left c).After-row_sum)

pub overflow_sub-left-then-line-body-2 : goal.overflow_sub-left-then-line-body-2
overflow_sub-left-then-line-body-2 c = omega (arith, row_here (goal.at.overflow_sub-left-then-line-body-2 c).After-row_sum)

pub offset_bounds-ends-q : goal.offset_bounds-ends-q
offset_bounds-ends-q c = omega (arith, row_here (goal.at.offset_bounds-ends-q c).After-row_sum, (c.survey-rows.ensures 0).few)

pub slice_bounds-count_row-count : goal.slice_bounds-count_row-count
slice_bounds-count_row-count c = omega (arith, row_here (goal.at.slice_bounds-count_row-count c).After-row_sum, (c.survey-rows.ensures 0).capacity, c.loop-j.invariant.same)

pub slice_bounds-count_row-start : goal.slice_bounds-count_row-start
slice_bounds-count_row-start c = omega (arith, row_here (goal.at.slice_bounds-count_row-start c).After-row_sum, (c.survey-rows.ensures 0).capacity, c.loop-j.invariant.same)

pub count_row-requires : goal.count_row-requires
count_row-requires c =
    let s = c.survey-rows.ensures 0 in
    row_ready c.requires.lines s.small s.few s.capacity c.loop-j.invariant (omega arith) (omega (arith, c.if-line-body-2.true)) _ c.row_sum.ensures

pub returns-in_err-counted : goal.returns-in_err-counted
returns-in_err-counted c =
    let s = c.survey-rows.ensures 0 in
    let p = err_from_is_err_and c.from_residual.result c.from_residual.ensures.1 in
    rw (p.1, p.2)
    (body_refused c.requires.lines s.small s.few s.capacity c.loop-j.invariant (omega arith) (omega (arith, c.if-line-body-2.true)) _ c.row_sum.ensures
    c.count_row.ensures _ c.in_err-counted.was)

pub offset_bounds-ends-q-then-line-body-2 : goal.offset_bounds-ends-q-then-line-body-2
offset_bounds-ends-q-then-line-body-2 c =
    omega (arith, row_here (goal.at.offset_bounds-ends-q-then-line-body-2 c).After-row_sum, (c.survey-rows.ensures 0).few)

pub bounds-ends-q : goal.bounds-ends-q
bounds-ends-q c =
    let z = c.loop-j.invariant in
    omega (
      arith,
      row_here (goal.at.bounds-ends-q c).After-row_sum,
      (c.survey-rows.ensures 0).capacity,
      z.same,
      same_len_mid c.loop-j.q (length c.loop-j.ends - c.loop-j.q) c.loop-j.ends c.count_row.new.ends c.count_row.auto.ends,
    )

pub overflow_sub-reach : goal.overflow_sub-reach
overflow_sub-reach c =
    let s = c.survey-rows.ensures 0 in
    here_small c.requires.lines s.small s.few s.capacity c.loop-j.invariant (omega arith) (omega (arith, c.if-line-body-2.true)) _ c.row_sum.ensures
    c.count_row.ensures _ c.in_ok-counted.was c.count_row.auto.ends

pub overflow_add-q : goal.overflow_add-q
overflow_add-q c = omega (arith, row_here (goal.at.overflow_add-q c).After-row_sum, (c.survey-rows.ensures 0).few)

pub loop-j-preserved : goal.loop-j-preserved
loop-j-preserved c =
    let s = c.survey-rows.ensures 0 in
    let z = c.loop-j.invariant in
    let deep : c.args.d + 1 < (get_or c.args.lines.now c.loop-j.j no_node).depth = omega arith in
    elim c.if-line-body-2.branch [
      | then-line-body-2+in_ok-counted w ↦
          rw (w.ends-is, w.reach-is, w.n-is, w.q-is)
          (body_more c.requires.lines s.small s.few s.capacity z deep (omega (arith, w.if-line-body-2.true)) _ w.row_sum.ensures
          w.count_row.ensures _ w.in_ok-counted.was w.count_row.auto.ends)
      | else-line-body-2 w ↦
          rw (w.ends-is, w.reach-is, w.n-is, w.q-is)
          (body_on c.requires.lines s.small s.few s.capacity z deep (λ o. w.if-line-body-2.false (omega arith)))
    ]

pub returns-after-loop-j : goal.returns-after-loop-j
returns-after-loop-j c =
    let s = c.survey-rows.ensures 0 in
    λ n. body_stop c.requires.lines s.small s.few s.capacity c.loop-j.invariant n (omega (arith, past_lines c.args.lines.now c.loop-j.j (omega arith)))

pub returns-then-line-body : goal.returns-then-line-body
returns-then-line-body c =
    let s = c.survey-rows.ensures 0 in
    λ n. body_stop c.requires.lines s.small s.few s.capacity c.loop-j.invariant n (omega arith)
