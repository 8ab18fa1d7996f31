-- `call_walk::walking_out::walk_out` meets its contract: a sheet has no more lines than the arrays have room for, and the first buffer a place for each column.
use Rattle.std.proofs.Common.{rules, ◌≡◌, Err}
use mathlib.Core.Path.{sym}
use native.Mathlib.Omega.{arith}
use lib.Seq.{length-take-le}
use Rattle.call_walk.proofs.WalkCall.{lines_few, walk_found, walk_refused}
use Rattle.call_walk.proofs.walking_out.walk_out.Goals as goal

pub returns-in_err-n : goal.returns-in_err-n
returns-in_err-n c =
    let q : c.from_residual.result ≡ Err c.in_err-n.field-0.0 = search rules in
    rw q (walk_refused c.walk_sheet.ensures c.in_err-n.was)

pub slice_bounds-walk-end : goal.slice_bounds-walk-end
slice_bounds-walk-end c = omega (arith, (lines_few c.walk_sheet.ensures c.in_ok-n.was).0)

pub slice_bounds-write_widths-end : goal.slice_bounds-write_widths-end
slice_bounds-write_widths-end c = sym (length-take-le _ _ (omega (arith, (lines_few c.walk_sheet.ensures c.in_ok-n.was).0)))

pub returns : goal.returns
returns c = walk_found c.walk_sheet.ensures c.in_ok-n.was (omega (arith, (lines_few c.walk_sheet.ensures c.in_ok-n.was).0)) c.write_widths.ensures
