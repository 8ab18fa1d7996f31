-- The answer for a text: its value, or 13, or 14.
use Rattle.std.specs.Prelude.{Bool, true, false, List, ℕ, ℤ, pos, negsuc, Option, None, Some, Result, Ok, Err}
use Rattle.common.specs.declared.Reason.{Reason}
use Rattle.common.specs.declared.Reason.TheVariants.{NoExpression, OutOfBounds}
use Rattle.expression.specs.Tree.{both}
use Rattle.expression.specs.Machine.{Kit, run, start}

-- results that are values
abbrev pub values : Kit (Option ℤ)
values = record { lit = λ n. Some (pos n); join = both }

abbrev pub negative : ℤ → Bool
negative (pos n) = false
negative (negsuc n) = true

unfoldable pub answer_by : Option (Option ℤ) → Result ℤ Reason
answer_by None = Err NoExpression
answer_by (Some None) = Err OutOfBounds
answer_by (Some (Some z)) = Ok z

unfoldable pub answer_of : List ℕ → Result ℤ Reason
answer_of text = answer_by (run values start text)
