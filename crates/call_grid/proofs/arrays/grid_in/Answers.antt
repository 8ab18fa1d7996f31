-- `call_grid::arrays::grid_in` meets its contract: the sheet has no more lines than the arrays have room for; they suffice for its tables, or nothing is found.
use Rattle.std.proofs.Common.{rules, ◌≡◌, Err}
use mathlib.Core.Path.{refl, sym, ◌∙◌}
use native.Mathlib.Omega.{arith}
use Rattle.sheet_load.proofs.Measurable.{front_table}
use Rattle.grid_build.proofs.Cut.{made_within, made_records}
use Rattle.table_layout.proofs.Capacities.{grid_capacity, asked_ready}
use Rattle.sheet_figures.proofs.Openings.{opened_at, opened_front, asked_lines, most_enough}
use Rattle.call_grid.proofs.Found.{room_still, figures_fit, records_small, grid_found, grid_refused}
use Rattle.call_grid.proofs.arrays.grid_in.Goals as goal

pub returns-in_err-n-clause-tried : goal.returns-in_err-n-clause-tried
returns-in_err-n-clause-tried g c =
    let q : c.from_residual.result ≡ Err c.in_err-n.field-0.0 = search rules in
    rw q (grid_refused _ _ (sym c.open_sheet.ensures.answer ∙ c.in_err-n.was))

pub shared_whole_as_front-lines : goal.shared_whole_as_front-lines
shared_whole_as_front-lines g c = (
  omega (arith, opened_front (opened_at c.open_sheet.ensures c.in_ok-n.was) (omega (arith, c.requires.lines_capacity))),
  omega (arith, c.requires.sizes.0),
)

pub overflow_sub-at : goal.overflow_sub-at
overflow_sub-at g c = (front_table c.open_sheet.ensures refl _ c.in_ok-n.was).from_one

pub make-counts-requires : goal.make-counts-requires
make-counts-requires g c =
    let a = asked_lines (opened_at c.open_sheet.ensures c.in_ok-n.was) in
    asked_ready a (grid_capacity (most_enough a (c.enough.ensures.enough c.if-not-enough.false)) _ _ (omega arith) (omega arith))

pub records-grid-requires : goal.records-grid-requires
records-grid-requires g c = made_within c.make-counts.ensures

pub write_grid-requires : goal.write_grid-requires
write_grid-requires g c =
    let f = records_small (asked_lines (opened_at c.open_sheet.ensures c.in_ok-n.was)) (made_records c.make-counts.ensures c.records-grid.ensures) in
    figures_fit f.0 f.1 (room_still refl refl refl c.open_sheet.auto.scratch refl c.requires.grid_capacity)

pub answer_of-requires : goal.answer_of-requires
answer_of-requires g c = records_small (asked_lines (opened_at c.open_sheet.ensures c.in_ok-n.was)) (made_records c.make-counts.ensures c.records-grid.ensures)

pub returns-clause-tried : goal.returns-clause-tried
returns-clause-tried g c =
    rw c.answer_of.ensures
    (grid_found _ _ (opened_at c.open_sheet.ensures c.in_ok-n.was) (made_records c.make-counts.ensures c.records-grid.ensures) c.write_grid.ensures)
