-- `replay_answers::listed` meets its contract: a sheet that is read has no more lines than the limit (`accepted_lines`), so that what is cut off is as long as that.
use mathlib.Core.Path.{sym, ◌∙◌}
use native.Mathlib.Omega.{arith}
use lib.Seq.{length-take-le}
use Rattle.sheet.proofs.Bounds.{accepted_lines}
use Rattle.replay_answers.proofs.listed.Goals as goal

pub slice_bounds-lines-end : goal.slice_bounds-lines-end
slice_bounds-lines-end c =
    let a = accepted_lines _ _ (sym c.read_sheet.ensures.answer ∙ c.in_ok-n.was) in
    sym (length-take-le _ _ (omega (arith, a.0, a.1, c.read_sheet.auto.lines)))
