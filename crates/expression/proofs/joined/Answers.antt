-- `expression::joined` meets its contract: by the two results, each of which reads back from its 64 bits.
use Rattle.std.proofs.Common.{w64, rules, FitsSigned}
use Rattle.std.proofs.Math.Facts.{to_z-of_z}
use Rattle.expression.specs.Tree.{both}
use Rattle.expression.proofs.joined.Goals as goal

pub returns-in_err-a : goal.returns-in_err-a
unfolding both
returns-in_err-a c = rw c.in_err-a.was c.from_residual.ensures

pub returns-in_err-b : goal.returns-in_err-b
unfolding both
returns-in_err-b c = rw (c.in_ok-a.was, c.in_err-b.was) c.from_residual-in_err-b.ensures

pub returns : goal.returns
unfolding both
returns c =
    let f : FitsSigned w64 c.in_ok-a.field-0 = search rules in
    let g : FitsSigned w64 c.in_ok-b.field-0 = search rules in
    rw (c.in_ok-a.was, c.in_ok-b.was) (simp (to_z-of_z f, to_z-of_z g) at c.reckoned.ensures)
