-- `call_joined::laying::layout_of` meets its contract: both lines of an opened sheet are tables, all its lines are measured, and the layout is that of the
-- joined grid.
use Rattle.std.proofs.Common.{rules, ◌≡◌, Err, Ok}
use mathlib.Core.Path.{refl, sym, ◌∙◌}
use native.Mathlib.Omega.{arith}
use Rattle.std.proofs.lemmas.Result.{err_from_is_err_and}
use lib.Seq.{length-take-le}
use Rattle.sheet_load.proofs.Measurable.{front_measurable, sheet_measured, lent_any}
use Rattle.call_joined.proofs.Opening.{Opened, opened, put_on, put_none}
use Rattle.call_joined.proofs.LaidOut.{laying_refused, all_measured, laying_late, laid_small, laid_found}
use Rattle.call_joined.proofs.laying.layout_of.Goals as goal
use Rattle.call_joined.proofs.laying.layout_of.Goals.{In_ok-n, In_ok-a}

pub returns-in_err-n : goal.returns-in_err-n
returns-in_err-n c =
    let q : c.from_residual.result ≡ Err c.in_err-n.field-0.0 = search rules in
    rw q (laying_refused _ _ _ _ _ _ (sym c.open_two.ensures.answer ∙ c.in_err-n.was))

open_for : (c : In_ok-n) → Opened c.args.sheet.now c.args.left c.args.right c.in_ok-n.n c.open_two.new.lines
open_for c = opened _ _ _ c.open_two.ensures c.in_ok-n.was

pub slice_bounds-lines-end : goal.slice_bounds-lines-end
slice_bounds-lines-end c = omega (arith, (open_for (goal.at.slice_bounds-lines-end c).In_ok-n).passed.few)

pub slice_bounds-lines-end-2 : goal.slice_bounds-lines-end-2
slice_bounds-lines-end-2 c = sym (length-take-le _ _ (omega (arith, (open_for (goal.at.slice_bounds-lines-end-2 c).In_ok-n).passed.few)))

pub measure-requires : goal.measure-requires
measure-requires c =
    lent_any (front_measurable c.open_two.ensures _ c.in_ok-n.was (omega arith) (omega arith)).1
    (record { leasts_capacity = omega (arith, c.requires.column_capacity, c.open_two.auto.scratch); entries_capacity = omega arith; rows_capacity = omega arith })

pub overflow_sub-t : goal.overflow_sub-t
overflow_sub-t c = (open_for (goal.at.overflow_sub-t c).In_ok-n).left.from_one

pub overflow_sub-t-2 : goal.overflow_sub-t-2
overflow_sub-t-2 c = (open_for (goal.at.overflow_sub-t-2 c).In_ok-n).right.from_one

pub invariant_of-t : goal.invariant_of-t
invariant_of-t c = let o = open_for (goal.at.invariant_of-t c).In_ok-n in rw o.holds (record { known = o.tables })

pub lay_out-laid-requires-clause-measured : goal.lay_out-laid-requires-clause-measured
lay_out-laid-requires-clause-measured c =
    let o = open_for (goal.at.lay_out-laid-requires-clause-measured c).In_ok-n in
    rw o.holds (all_measured ((sheet_measured c.open_two.ensures _ c.in_ok-n.was c.measure.ensures).measured _ refl) (omega (arith, o.passed.few, o.passed.kept, c.measure.auto.figures)))

pub returns-in_err-a : goal.returns-in_err-a
returns-in_err-a c =
    let o = open_for (goal.at.returns-in_err-a c).In_ok-n in
    let p = err_from_is_err_and c.from_residual-in_err-a.result c.from_residual-in_err-a.ensures.1 in
    let q = put_on c.args.left _ c.map_err.result _ (λ why y k. search rules) c.map_err.ensures.cases _ c.in_err-a.was in
    rw (p.1, p.2, q.is) (laying_late _ _ _ c.args.settings.wrap _ _ o c.lay_out-laid.ensures {why = q.why} q.was)

-- what was laid out
laid : (c : In_ok-a) → c.lay_out-laid.result ≡ Ok c.in_ok-a.a
laid c = put_none c.args.left _ c.map_err.result _ (λ why y k. search rules) c.map_err.ensures.cases _ c.in_ok-a.was

pub answer_of-requires : goal.answer_of-requires
answer_of-requires c =
    let at = goal.at.answer_of-requires c in
    laid_small _ _ _ c.args.settings.wrap _ _ (open_for at.In_ok-n) c.lay_out-laid.ensures (laid at.In_ok-a)

pub returns : goal.returns
returns c =
    let at = goal.at.returns c in
    let f = ((sheet_measured c.open_two.ensures _ c.in_ok-n.was c.measure.ensures).measured _ refl).figures in
    rw c.answer_of.ensures (laid_found _ _ _ c.args.settings.wrap _ _ (open_for at.In_ok-n) c.lay_out-laid.ensures (laid at.In_ok-a) f)
