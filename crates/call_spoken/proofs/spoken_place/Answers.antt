-- `call_spoken::spoken_place` meets its contract: no sheet has more lines, and no table more entries, than the arrays have room for; the owner that is found
-- is a line of the sheet.
use Rattle.std.proofs.Common.{rules, ◌≡◌, Err}
use mathlib.Core.Path.{sym, ap, ◌∙◌}
use native.Mathlib.Omega.{arith}
use lib.Seq.{length-take-le}
use Rattle.std.specs.Prelude.{None, Some, Ok}
use Rattle.std.specs.Result.{result_ok}
use Rattle.common.proofs.Handed.{handed}
use Rattle.sheet_figures.specs.inner.Opened.{OpenedAt}
use Rattle.sheet_figures.proofs.Openings.{opened_at, opened_apt, opened_front, opened_passed, asked_lines}
use Rattle.table_layout.proofs.Capacities.{any_most, grid_capacity, asked_ready}
use Rattle.call_spoken.specs.Spoken.{owner_at}
use Rattle.call_spoken.proofs.Places.{place_refused, place_none, place_owned, part_ready}
use Rattle.call_spoken.proofs.spoken_place.Goals as goal
use Rattle.call_spoken.proofs.spoken_place.Goals.{In_ok-n, In_ok-c}

pub returns-in_err-n : goal.returns-in_err-n
returns-in_err-n c =
    let q : c.from_residual.result ≡ Err c.in_err-n.field-0.0 = search rules in
    rw q (sym (place_refused c.args.sheet.now c.args.line c.args.entry (sym c.open_sheet.ensures.answer ∙ c.in_err-n.was)))

opened : (c : In_ok-n) → OpenedAt c.args.sheet.now c.args.line c.in_ok-n.n c.open_sheet.new.lines
opened c = opened_at c.open_sheet.ensures c.in_ok-n.was

pub overflow_sub-at : goal.overflow_sub-at
overflow_sub-at c = (opened_apt (opened (goal.at.overflow_sub-at c).In_ok-n)).from_one

pub slice_bounds-lines-end : goal.slice_bounds-lines-end
slice_bounds-lines-end c = opened_front (opened (goal.at.slice_bounds-lines-end c).In_ok-n) (omega arith)

pub slice_bounds-owner_of-end : goal.slice_bounds-owner_of-end
slice_bounds-owner_of-end c = sym (length-take-le _ _ (opened_front (opened (goal.at.slice_bounds-owner_of-end c).In_ok-n) (omega arith)))

pub owner_of-owner-requires : goal.owner_of-owner-requires
owner_of-owner-requires c =
    let a = asked_lines (opened (goal.at.owner_of-owner-requires c).In_ok-n) in
    asked_ready a (grid_capacity (any_most a) _ _ (omega arith) (omega arith))

pub returns-in_err-c : goal.returns-in_err-c
returns-in_err-c c =
    let o = opened (goal.at.returns-in_err-c c).In_ok-n in
    let q : c.from_residual-in_err-c.result ≡ Err c.in_err-c.field-0.0 = search rules in
    let h = handed _ _ _ _ c.ok_or.ensures.value c.in_err-c.was in
    let n : owner_at c.args.sheet.now c.args.line c.args.entry ≡ None = rw o.holds at (sym (h.0 ∙ c.owner_of-owner.ensures)) in
    q ∙ ap Err (h.1 ∙ c.at.ensures) ∙ sym (place_none c.args.sheet.now c.args.line c.args.entry (opened_passed o).all n)

-- the entry is a filler
owned : (c : In_ok-c) → owner_at c.args.sheet.now c.args.line c.args.entry ≡ Some c.in_ok-c.c
owned c =
    let o = opened (goal.at.slice_bounds-lines-end-2 c).In_ok-n in
    let e : c.owner_of-owner.result ≡ Some c.in_ok-c.c = c.ok_or.ensures.ok_part ∙ ap result_ok c.in_ok-c.was in
    rw o.holds at (sym c.owner_of-owner.ensures ∙ e)

pub slice_bounds-lines-end-2 : goal.slice_bounds-lines-end-2
slice_bounds-lines-end-2 c = opened_front (opened (goal.at.slice_bounds-lines-end-2 c).In_ok-n) (omega arith)

pub slice_bounds-spoken_part-end : goal.slice_bounds-spoken_part-end
slice_bounds-spoken_part-end c = sym (length-take-le _ _ (opened_front (opened (goal.at.slice_bounds-spoken_part-end c).In_ok-n) (omega arith)))

pub spoken_part-requires : goal.spoken_part-requires
spoken_part-requires c =
    let o = opened (goal.at.spoken_part-requires c).In_ok-n in
    rw o.holds (part_ready c.args.sheet.now c.args.line (opened_passed o).all c.args.entry (owned (goal.at.spoken_part-requires c).In_ok-c))

pub returns : goal.returns
returns c =
    let o = opened (goal.at.returns c).In_ok-n in
    ap Ok (rw o.holds at c.spoken_part.ensures)
    ∙ sym (place_owned c.args.sheet.now c.args.line c.args.entry (opened_passed o).all (owned (goal.at.returns c).In_ok-c))
