-- `call_layout::arrays::layout_in` meets its contract: the sheet has no more lines than the arrays have room for; they suffice for its tables, or nothing is
-- found.
use Rattle.std.proofs.Common.{rules, ◌≡◌, Err}
use mathlib.Core.Path.{refl, sym, ◌∙◌}
use native.Mathlib.Omega.{arith}
use Rattle.sheet_load.proofs.Measurable.{front_measurable, front_table, lent_enough}
use Rattle.table_layout.proofs.Capacities.{grid_capacity}
use Rattle.sheet_figures.proofs.Openings.{opened_at, opened_front, asked_lines, most_enough}
use Rattle.sheet_figures.proofs.Tables.{lines_below, table_known}
use Rattle.call_layout.proofs.Found.{out_still, layout_found, layout_refused}
use Rattle.call_layout.proofs.arrays.layout_in.Goals as goal

pub returns-in_err-n-clause-tried : goal.returns-in_err-n-clause-tried
returns-in_err-n-clause-tried g c =
    let q : c.from_residual.result ≡ Err c.in_err-n.field-0.0 = search rules in
    rw q (layout_refused _ _ _ _ _ (sym c.open_sheet.ensures.answer ∙ c.in_err-n.was))

pub shared_whole_as_front-lines : goal.shared_whole_as_front-lines
shared_whole_as_front-lines g c = (
  omega (arith, opened_front (opened_at c.open_sheet.ensures c.in_ok-n.was) (omega (arith, c.requires.lines_capacity))),
  omega (arith, c.requires.sizes.0),
)

pub overflow_sub-at : goal.overflow_sub-at
overflow_sub-at g c = (front_table c.open_sheet.ensures refl _ c.in_ok-n.was).from_one

pub measure_below-requires : goal.measure_below-requires
measure_below-requires g c =
    let capacity = c.requires.lines_capacity in
    let t = front_table c.open_sheet.ensures refl _ c.in_ok-n.was in record {
      lent = lent_enough (front_measurable c.open_sheet.ensures _ c.in_ok-n.was (omega (arith, capacity)) (omega (arith, capacity))).1
          (omega (arith, c.requires.out_capacity.column_capacity, c.open_sheet.auto.scratch)) (c.enough.ensures.enough c.if-not-enough.false) (omega arith) (omega arith);
      at_in_bounds = omega (arith, t.from_one, t.within);
      at_table = t.kind;
    }

pub invariant_of-t : goal.invariant_of-t
invariant_of-t g c = record { known = table_known (lines_below c.open_sheet.ensures c.in_ok-n.was c.measure_below.ensures) (omega (arith, c.requires.lines_capacity)) }

pub layout_of-layout-requires : goal.layout_of-layout-requires
layout_of-layout-requires g c = record {
  grid_capacity = grid_capacity (most_enough (asked_lines (opened_at c.open_sheet.ensures c.in_ok-n.was)) (c.enough.ensures.enough c.if-not-enough.false)) _ _ (omega arith) (omega arith);
  width_le_max_size = omega (arith, c.args.settings.width_bound);
  out_capacity = out_still (c.measure_below.auto.leasts ∙ c.open_sheet.auto.scratch) refl refl c.requires.out_capacity;
}

pub returns-clause-tried : goal.returns-clause-tried
returns-clause-tried g c =
    layout_found _ _ _ _ _ (lines_below c.open_sheet.ensures c.in_ok-n.was c.measure_below.ensures) c.layout_of-layout.ensures
