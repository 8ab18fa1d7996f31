-- `sheet_load::open_two` meets its contract: what was read can be judged, by the line that decides, and the answers together are the sheet's.
use Rattle.std.proofs.Common.{rules, ◌≡◌, Err}
use mathlib.Core.Path.{sym}
use native.Mathlib.Omega.{arith}
use lib.ListN.{length, take}
use lib.Seq.{length-take-le}
use Prim.Native.Nat.{◌≤◌}
use Rattle.sheet_load.specs.inner.Opened.{OpenLinesPre}
use Rattle.sheet_load.proofs.Ready.{front_ready}
use Rattle.sheet_load.proofs.Opens.{opened_refused, opened_read}
use Rattle.sheet_load.proofs.open_two.Goals as goal
use Rattle.sheet_load.proofs.open_two.Goals.{In_ok-n}

ready : (c : In_ok-n) → (c.in_ok-n.n ≤ length c.read_sheet.new.lines) × OpenLinesPre (take c.in_ok-n.n c.read_sheet.new.lines) c.args.scratch.now
ready c = front_ready _ c.in_ok-n.was c.read_sheet.ensures (omega (arith, c.requires.bytes_bound, c.read_sheet.auto.lines)) c.requires.bytes_in_bounds

pub slice_bounds-deciding-end : goal.slice_bounds-deciding-end
slice_bounds-deciding-end c = (ready (goal.at.slice_bounds-deciding-end c).In_ok-n).0

pub slice_bounds-deciding-end-2 : goal.slice_bounds-deciding-end-2
slice_bounds-deciding-end-2 c = sym (length-take-le _ _ (ready (goal.at.slice_bounds-deciding-end-2 c).In_ok-n).0)

pub slice_bounds-open_lines-end : goal.slice_bounds-open_lines-end
slice_bounds-open_lines-end c = (ready (goal.at.slice_bounds-open_lines-end c).In_ok-n).0

pub slice_bounds-open_lines-end-2 : goal.slice_bounds-open_lines-end-2
slice_bounds-open_lines-end-2 c = sym (length-take-le _ _ (ready (goal.at.slice_bounds-open_lines-end-2 c).In_ok-n).0)

pub open_lines-requires : goal.open_lines-requires
open_lines-requires c = (ready (goal.at.open_lines-requires c).In_ok-n).1

pub returns-in_err-n : goal.returns-in_err-n
returns-in_err-n c =
    let q : c.from_residual.result ≡ Err c.in_err-n.field-0.0 = search rules in
    rw q (opened_refused c.read_sheet.ensures _ c.in_err-n.was)

-- the line that decides is that of the sheet's lines
pub returns : goal.returns
returns c =
    let d = rw (c.read_sheet.ensures.stored _ c.in_ok-n.was) at c.deciding-asked.ensures in
    opened_read c.read_sheet.ensures _ c.in_ok-n.was _ (rw d at c.open_lines.ensures)
