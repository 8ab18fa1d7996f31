-- `available_width::passed_on` meets its contract: each way is a law of Off.
use mathlib.Core.Path.{sym, ◌∙◌}
use Rattle.available_width.proofs.Off.{passes_none, passes_rest, passes_all}
use Rattle.available_width.proofs.passed_on.Goals as goal

pub returns-in_err-v : goal.returns-in_err-v
returns-in_err-v c = c.from_residual.ensures ∙ passes_none _ _ _ c.in_err-v.was

pub returns-then-takes_off : goal.returns-then-takes_off
returns-then-takes_off c = passes_rest _ _ _ _ c.in_ok-v.was (sym c.takes_off.ensures ∙ c.if-takes_off.true) _ _ _ c.saturating_sub.ensures c.saturating_sub-least.ensures c.max.ensures

pub returns : goal.returns
returns c = passes_all _ _ _ _ c.in_ok-v.was (sym c.takes_off.ensures ∙ c.if-takes_off.false)
