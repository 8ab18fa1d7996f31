-- `line::zeros_at` meets its contract: the six bytes at the place are the three fields (`zeros`).
use mathlib.Core.Path.{sym, ◌∙◌}
use native.Mathlib.Omega.{arith}
use Rattle.line.proofs.Zeros.{zeros}
use Rattle.line.proofs.zeros_at.Goals as goal

pub returns-in-Some-eq48 : goal.returns-in-Some-eq48
returns-in-Some-eq48 c e =
    let found = c.in-Some-eq48 in
    zeros _ _ _ (sym c.eq-ranked.ensures ∙ c.if-not-ranked.true) found.ensures.lookup.0.2 found.len_at_least (omega arith)
