-- `call_nested::nesting::nest_sheet` meets its contract: a sheet has no more lines than the arrays have room for, and the buffer of the columns a place for each.
use Rattle.std.proofs.Common.{rules, ◌≡◌, Err}
use mathlib.Core.Path.{refl, sym}
use native.Mathlib.Omega.{arith}
use lib.Seq.{length-take-le}
use Rattle.sheet_figures.proofs.Openings.{opened_apt, opened_front}
use Rattle.sheet_figures.proofs.Tables.{table_known}
use Rattle.call_layout.proofs.Found.{out_still}
use Rattle.call_nested.proofs.NestCall.{lines_of, place_in, width_small, nest_found, nest_refused}
use Rattle.call_nested.proofs.nesting.nest_sheet.Goals as goal

pub returns-in_err-n : goal.returns-in_err-n
returns-in_err-n c =
    let q : c.from_residual.result ≡ Err c.in_err-n.field-0.0 = search rules in
    rw q (nest_refused c.walk_sheet.ensures c.in_err-n.was)

pub overflow_sub-at : goal.overflow_sub-at
overflow_sub-at c = (opened_apt (lines_of c.walk_sheet.ensures c.in_ok-n.was).opened).from_one

pub slice_bounds-lines-end : goal.slice_bounds-lines-end
slice_bounds-lines-end c = opened_front (lines_of c.walk_sheet.ensures c.in_ok-n.was).opened (omega arith)

pub slice_bounds-t-end : goal.slice_bounds-t-end
slice_bounds-t-end c = sym (length-take-le _ _ (opened_front (lines_of c.walk_sheet.ensures c.in_ok-n.was).opened (omega arith)))

pub bounds-walk-at : goal.bounds-walk-at
bounds-walk-at c = omega (arith, place_in c.walk_sheet.ensures c.in_ok-n.was c.walk_sheet.new.walk (omega arith))

pub invariant_of-t : goal.invariant_of-t
invariant_of-t c = record { known = table_known (lines_of c.walk_sheet.ensures c.in_ok-n.was) (omega arith) }

pub nest-nested-requires : goal.nest-nested-requires
nest-nested-requires c = record {
  width_small = width_small c.walk_sheet.ensures c.in_ok-n.was;
  out_capacity = out_still c.walk_sheet.auto.leasts refl refl c.requires;
}

pub returns : goal.returns
returns c = nest_found c.walk_sheet.ensures c.in_ok-n.was c.nest-nested.ensures
