-- `line_fast::depth_at` meets its contract: a digit that no digit follows is the depth (`one_deep`), and so are two that are no more than a depth may be
-- (`two_deep`).
use mathlib.Core.Path.{refl}
use native.Mathlib.Omega.{arith}
use Rattle.line_fast.proofs.Told.{one_deep, two_deep}
use Rattle.line_fast.proofs.depth_at.Goals as goal

pub returns-then-not-is_ascii_digit : goal.returns-then-not-is_ascii_digit
returns-then-not-is_ascii_digit c =
    one_deep _ _ c.in_ok-rest.ensures.lookup.0.2 (omega arith) (omega arith) (omega arith) refl

pub returns : goal.returns
returns c =
    two_deep _ _ c.in_ok-rest.ensures.lookup.0.2 (omega arith) (omega arith) (omega arith) (λ q. c.if-ones-eq0.false (omega (arith, q)))
    (omega (arith, c.if-not-is_ascii_digit.ensures.cases)) (omega (arith, c.if-not-is_ascii_digit.ensures.cases)) refl (omega arith)
