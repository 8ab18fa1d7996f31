-- `line::calc_line` meets its contract: the text's measure is told by `evaluator::measured`, and each way is the definition's.
use borrow.Author.Rules.{rules}
use mathlib.Core.Path.{sym, ap, ◌∙◌}
use Rattle.std.specs.Prelude.{Ok}
use Rattle.line.specs.inner.Reading.{calc_read}
use Rattle.line.proofs.calc_line.Goals as goal

pub returns-in_err-own : goal.returns-in_err-own
unfolding calc_read
returns-in_err-own c = let e = ap (calc_read c.args.f c.args.to) (sym c.in_err-own.was ∙ c.measured.ensures) in search rules

pub returns : goal.returns
unfolding calc_read
returns c = ap Ok c.node_with.ensures ∙ ap (calc_read _ _) (sym c.in_ok-own.was ∙ c.measured.ensures)
