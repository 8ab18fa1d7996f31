-- `call_window::sheets::report_sheet` meets its contract: no sheet has more lines, and no table more entries, than the arrays have room for.
use Rattle.std.proofs.Common.{rules, ◌≡◌, Err}
use mathlib.Core.Path.{sym, ◌∙◌}
use native.Mathlib.Omega.{arith}
use lib.Seq.{length-take-le}
use Rattle.sheet_figures.specs.inner.Opened.{LinesOf}
use Rattle.sheet_figures.proofs.Openings.{opened_apt, opened_front}
use Rattle.sheet_figures.proofs.Tables.{lines_of, table_known}
use Rattle.call_window.proofs.Read.{window_found, window_refused}
use Rattle.call_window.proofs.sheets.report_sheet.Goals as goal
use Rattle.call_window.proofs.sheets.report_sheet.Goals.{In_ok-n}

pub returns-in_err-n : goal.returns-in_err-n
returns-in_err-n c =
    let q : c.from_residual.result ≡ Err c.in_err-n.field-0.0 = search rules in
    rw q (window_refused (sym c.measure_table.ensures.opened.answer ∙ c.in_err-n.was))

opened : (c : In_ok-n) → LinesOf c.args.sheet.now c.args.line c.args.settings.wrap c.in_ok-n.n c.measure_table.new.lines c.measure_table.new.figures
opened c = lines_of c.measure_table.ensures c.in_ok-n.was

pub slice_bounds-lines-end : goal.slice_bounds-lines-end
slice_bounds-lines-end c = opened_front (opened (goal.at.slice_bounds-lines-end c).In_ok-n).opened (omega arith)

pub slice_bounds-t-end : goal.slice_bounds-t-end
slice_bounds-t-end c = sym (length-take-le _ _ (opened_front (opened (goal.at.slice_bounds-t-end c).In_ok-n).opened (omega arith)))

pub overflow_sub-t : goal.overflow_sub-t
overflow_sub-t c = (opened_apt (opened (goal.at.overflow_sub-t c).In_ok-n).opened).from_one

pub invariant_of-t : goal.invariant_of-t
invariant_of-t c = record { known = table_known (opened (goal.at.invariant_of-t c).In_ok-n) (omega arith) }

pub returns : goal.returns
returns c = window_found (opened (goal.at.returns c).In_ok-n) c.report.ensures
