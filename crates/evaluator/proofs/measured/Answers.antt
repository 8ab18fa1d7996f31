-- `evaluator::measured` meets its contract. The size of a value is within the bounds by `answer_bound`.
use mathlib.Core.Path.{sym, ap, ◌∙◌}
use Rattle.std.proofs.Common.{w64, rules, Ok, FitsSigned}
use Rattle.std.proofs.Math.Facts.{to_z-of_z}
use Rattle.evaluator.specs.Measures.{measure_by, measure_of}
use Rattle.expression.proofs.Theorems.{answer_bound}
use Rattle.evaluator.proofs.measured.Goals as goal

pub returns-in_err-evaluate : goal.returns-in_err-evaluate
unfolding measure_by measure_of
returns-in_err-evaluate c = let e = sym c.in_err-evaluate.was ∙ c.evaluate.ensures in search rules

pub written_length-requires : goal.written_length-requires
written_length-requires c =
    let f : FitsSigned w64 c.in_ok-evaluate.field-0 = search rules in
    rw (to_z-of_z f) (answer_bound _ _ (sym c.evaluate.ensures ∙ c.in_ok-evaluate.was))

pub returns : goal.returns
unfolding measure_by measure_of
returns c =
    let f : FitsSigned w64 c.in_ok-evaluate.field-0 = search rules in
    let l = simp (to_z-of_z f) at c.written_length.ensures in
    ap Ok l.is ∙ ap measure_by (sym c.in_ok-evaluate.was ∙ c.evaluate.ensures)
