-- `call_joined::speaking::joined_place` meets its contract: no sheet has more lines, and no table more entries, than the arrays have room for; the owner that
-- is found is a line of the sheet, or 0.
use Rattle.std.proofs.Common.{rules, ◌≡◌, Err}
use mathlib.Core.Path.{sym, ap, ◌∙◌}
use native.Mathlib.Omega.{arith}
use lib.Seq.{length-take-le}
use Rattle.std.specs.Prelude.{None, Some, Ok, ◌-◌}
use Rattle.std.specs.Result.{result_ok}
use Rattle.common.proofs.Handed.{handed}
use Rattle.sheet_load.specs.Opening.{nodes_of}
use Rattle.call_joined.specs.inner.Speaking.{owner_answer}
use Rattle.call_joined.proofs.Opening.{Opened, opened}
use Rattle.call_joined.proofs.Replies.{place_refused, place_late, owner_is, place_none, place_owned, part_ready}
use Rattle.call_joined.proofs.speaking.joined_place.Goals as goal
use Rattle.call_joined.proofs.speaking.joined_place.Goals.{In_ok-n, In_ok-found, In_ok-owner}

pub returns-in_err-n : goal.returns-in_err-n
returns-in_err-n c =
    let q : c.from_residual.result ≡ Err c.in_err-n.field-0.0 = search rules in
    rw q (sym (place_refused c.args.sheet.now c.args.left c.args.right c.args.entry (sym c.open_two.ensures.answer ∙ c.in_err-n.was)))

two : (c : In_ok-n) → Opened c.args.sheet.now c.args.left c.args.right c.in_ok-n.n c.open_two.new.lines
two c = opened c.args.sheet.now c.args.left c.args.right c.open_two.ensures c.in_ok-n.was

pub slice_bounds-lines-end : goal.slice_bounds-lines-end
slice_bounds-lines-end c = omega (arith, (two (goal.at.slice_bounds-lines-end c).In_ok-n).passed.capacity)

pub slice_bounds-owner_of-end : goal.slice_bounds-owner_of-end
slice_bounds-owner_of-end c = sym (length-take-le _ _ (omega (arith, (two (goal.at.slice_bounds-owner_of-end c).In_ok-n).passed.few)))

pub overflow_sub-left : goal.overflow_sub-left
overflow_sub-left c = (two (goal.at.overflow_sub-left c).In_ok-n).left.from_one

pub overflow_sub-right : goal.overflow_sub-right
overflow_sub-right c = (two (goal.at.overflow_sub-right c).In_ok-n).right.from_one

pub owner_of-requires-clause-tables : goal.owner_of-requires-clause-tables
owner_of-requires-clause-tables c = let o = two (goal.at.owner_of-requires-clause-tables c).In_ok-n in rw o.holds o.tables

pub returns-in_err-found : goal.returns-in_err-found
returns-in_err-found c =
    let o = two (goal.at.returns-in_err-found c).In_ok-n in
    let q : c.from_residual-in_err-found.result ≡ Err c.in_err-found.field-0.0 = search rules in
    rw q (sym (place_late c.args.sheet.now c.args.left c.args.right c.args.entry o.passed.all (rw o.holds at (sym c.owner_of.ensures ∙ c.in_err-found.was))))

-- what is found
found : (c : In_ok-found) → Opened c.args.sheet.now c.args.left c.args.right c.in_ok-n.n c.open_two.new.lines
    → owner_answer (nodes_of c.args.sheet.now) (c.args.left - 1) (c.args.right - 1) c.args.entry ≡ Ok c.in_ok-found.found
found c o = rw o.holds at (sym c.owner_of.ensures ∙ c.in_ok-found.was)

pub returns-in_err-owner : goal.returns-in_err-owner
returns-in_err-owner c =
    let o = two (goal.at.returns-in_err-owner c).In_ok-n in
    let q : c.from_residual-in_err-owner.result ≡ Err c.in_err-owner.field-0.0 = search rules in
    let h = handed _ _ _ _ c.ok_or.ensures.value c.in_err-owner.was in
    let f = found (goal.at.returns-in_err-owner c).In_ok-found o in
    let n : owner_answer (nodes_of c.args.sheet.now) (c.args.left - 1) (c.args.right - 1) c.args.entry ≡ Ok None = f ∙ ap Ok (sym h.0) in
    q ∙ ap Err (h.1 ∙ c.at.ensures) ∙ sym (place_none c.args.sheet.now c.args.left c.args.right c.args.entry o.passed.all n)

-- the entry is a filler
owned : (c : In_ok-owner) → owner_answer (nodes_of c.args.sheet.now) (c.args.left - 1) (c.args.right - 1) c.args.entry ≡ Ok (Some c.in_ok-owner.owner)
owned c =
    found (goal.at.slice_bounds-lines-end-2 c).In_ok-found (two (goal.at.slice_bounds-lines-end-2 c).In_ok-n) ∙ ap Ok (c.ok_or.ensures.ok_part ∙ ap result_ok c.in_ok-owner.was)

pub slice_bounds-lines-end-2 : goal.slice_bounds-lines-end-2
slice_bounds-lines-end-2 c = omega (arith, (two (goal.at.slice_bounds-lines-end-2 c).In_ok-n).passed.few)

pub slice_bounds-part_of-end : goal.slice_bounds-part_of-end
slice_bounds-part_of-end c = sym (length-take-le _ _ (omega (arith, (two (goal.at.slice_bounds-part_of-end c).In_ok-n).passed.few)))

pub part_of-requires : goal.part_of-requires
part_of-requires c =
    let o = two (goal.at.part_of-requires c).In_ok-n in
    let f = owner_is c.args.sheet.now c.args.left c.args.right c.args.entry o.passed.all (owned (goal.at.part_of-requires c).In_ok-owner) in
    rw o.holds (part_ready c.args.sheet.now c.args.left c.args.right c.args.entry o.passed.all o.left o.right f)

pub returns : goal.returns
returns c =
    let o = two (goal.at.returns c).In_ok-n in
    ap Ok (rw o.holds at c.part_of.ensures)
    ∙ sym (place_owned c.args.sheet.now c.args.left c.args.right c.args.entry o.passed.all (owned (goal.at.returns c).In_ok-owner))
