-- `call_estimates::arrays::estimates_in` meets its contract: the sheet has no more lines than the arrays have room for; they suffice for its tables, or nothing
-- is found.
use Rattle.std.proofs.Common.{rules, ◌≡◌, Err}
use mathlib.Core.Path.{refl, sym, ◌∙◌}
use native.Mathlib.Omega.{arith}
use lib.Seq.{length-take-le}
use Rattle.sheet_load.proofs.Measurable.{front_measurable, lent_enough, sheet_measured}
use Rattle.sheet_figures.proofs.Openings.{lines_in_fits}
use Rattle.call_estimates.proofs.Found.{lines_still, figures_fit, estimates_found, estimates_refused}
use Rattle.call_estimates.proofs.arrays.estimates_in.Goals as goal

pub returns-in_err-n-clause-tried : goal.returns-in_err-n-clause-tried
returns-in_err-n-clause-tried g c =
    let q : c.from_residual.result ≡ Err c.in_err-n.field-0.0 = search rules in
    rw q (estimates_refused (sym c.open_sheet.ensures.answer ∙ c.in_err-n.was))

pub shared_whole_as_front-lines : goal.shared_whole_as_front-lines
shared_whole_as_front-lines g c = (
  omega (arith, lines_in_fits _ _ c.open_sheet.ensures c.in_ok-n.was (omega (arith, c.requires.capacity))),
  omega (arith, c.requires.sizes.0),
)

pub measure-requires : goal.measure-requires
measure-requires g c =
    let capacity = c.requires.capacity in
    lent_enough (front_measurable c.open_sheet.ensures _ c.in_ok-n.was (omega (arith, capacity)) (omega (arith, capacity))).1
    (omega (arith, c.requires.lines_capacity.size_capacity, c.open_sheet.auto.scratch)) (c.enough.ensures.enough c.if-not-enough.false) (omega arith) (omega arith)

pub write_figures-requires : goal.write_figures-requires
write_figures-requires g c =
    let n = lines_in_fits _ _ c.open_sheet.ensures c.in_ok-n.was (omega (arith, c.requires.capacity)) in
    figures_fit (omega (arith, n, c.requires.sizes.0, length-take-le c.in_ok-n.n c.measure.new.figures (omega (arith, n, c.measure.auto.figures))))
    (lines_still (c.measure.auto.leasts ∙ c.open_sheet.auto.scratch) refl refl c.requires.lines_capacity)

pub returns-clause-tried : goal.returns-clause-tried
returns-clause-tried g c =
    let n = lines_in_fits _ _ c.open_sheet.ensures c.in_ok-n.was (omega (arith, c.requires.capacity)) in
    estimates_found _ (omega (arith, n, c.measure.auto.figures)) (sheet_measured c.open_sheet.ensures _ c.in_ok-n.was c.measure.ensures) c.write_figures.ensures
