-- `call_joined::gridding::grid_of` meets its contract: both lines of an opened sheet are tables, and the records are those of the joined grid.
use Rattle.std.proofs.Common.{rules, ◌≡◌, Err, Ok}
use Rattle.std.proofs.lemmas.Result.{err_from_is_err_and}
use mathlib.Core.Path.{sym, ◌∙◌}
use native.Mathlib.Omega.{arith}
use lib.Seq.{length-take-le}
use Rattle.call_joined.proofs.Opening.{Opened, opened, put_on, put_none}
use Rattle.call_joined.proofs.Gridded.{joined_refused, joined_late, counts_within, joined_small, joined_found}
use Rattle.call_joined.proofs.gridding.grid_of.Goals as goal
use Rattle.call_joined.proofs.gridding.grid_of.Goals.{In_ok-n, In_ok-counts}

pub returns-in_err-n : goal.returns-in_err-n
returns-in_err-n c =
    let q : c.from_residual.result ≡ Err c.in_err-n.field-0.0 = search rules in
    rw q (joined_refused _ _ _ (sym c.open_two.ensures.answer ∙ c.in_err-n.was))

open_for : (c : In_ok-n) → Opened c.args.sheet.now c.args.left c.args.right c.in_ok-n.n c.open_two.new.lines
open_for c = opened _ _ _ c.open_two.ensures c.in_ok-n.was

pub overflow_sub-l : goal.overflow_sub-l
overflow_sub-l c = (open_for (goal.at.overflow_sub-l c).In_ok-n).left.from_one

pub overflow_sub-r : goal.overflow_sub-r
overflow_sub-r c = (open_for (goal.at.overflow_sub-r c).In_ok-n).right.from_one

pub slice_bounds-lines-end : goal.slice_bounds-lines-end
slice_bounds-lines-end c = omega (arith, (open_for (goal.at.slice_bounds-lines-end c).In_ok-n).passed.few)

pub slice_bounds-make-end : goal.slice_bounds-make-end
slice_bounds-make-end c = sym (length-take-le _ _ (omega (arith, (open_for (goal.at.slice_bounds-make-end c).In_ok-n).passed.few)))

pub make-made-requires-clause-tables : goal.make-made-requires-clause-tables
make-made-requires-clause-tables c = let o = open_for (goal.at.make-made-requires-clause-tables c).In_ok-n in rw o.holds o.tables

pub returns-in_err-counts : goal.returns-in_err-counts
returns-in_err-counts c =
    let o = open_for (goal.at.returns-in_err-counts c).In_ok-n in
    let p = err_from_is_err_and c.from_residual-in_err-counts.result c.from_residual-in_err-counts.ensures.1 in
    let q = put_on c.args.left _ c.map_err.result _ (λ why y k. search rules) c.map_err.ensures.cases _ c.in_err-counts.was in
    rw (p.1, p.2, q.is) (joined_late _ _ _ o c.make-made.ensures {why = q.why} q.was)

-- what was made
made : (c : In_ok-counts) → c.make-made.result ≡ Ok c.in_ok-counts.counts
made c = put_none c.args.left _ c.map_err.result _ (λ why y k. search rules) c.map_err.ensures.cases _ c.in_ok-counts.was

pub records-grid-requires : goal.records-grid-requires
records-grid-requires c =
    let at = goal.at.records-grid-requires c in
    counts_within _ _ _ (open_for at.In_ok-n) c.make-made.ensures (made at.In_ok-counts) (omega arith) (omega arith)

pub answer_of-requires : goal.answer_of-requires
answer_of-requires c =
    let at = goal.at.answer_of-requires c in
    joined_small _ _ _ (open_for at.In_ok-n) c.make-made.ensures (made at.In_ok-counts) c.records-grid.ensures

pub returns : goal.returns
returns c =
    let at = goal.at.returns c in
    rw c.answer_of.ensures (joined_found _ _ _ (open_for at.In_ok-n) c.make-made.ensures (made at.In_ok-counts) c.records-grid.ensures c.write_grid.ensures)
