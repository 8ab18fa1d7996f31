-- The size of a sum: the length of the decimal writing of its value.
use Rattle.std.specs.Prelude.{Bool, true, false, List, ℕ, eqb, ℤ, nat_abs, Result, Ok, Err}
use Rattle.common.specs.declared.Reason.{Reason}
use Rattle.common.specs.Refusals.{reason_number}
use Rattle.text.specs.Decimal.{Number, plain, minus, writing}
use Rattle.expression.specs.Answers.{negative, answer_of}

-- a size with a minus sign or without, as a number of a sheet
abbrev pub with_sign : Bool → ℕ → Number
with_sign true n = minus n
with_sign false n = plain n

-- the length of its decimal writing, minus sign included: `writing` also measures the numbers of an ordered list
unfoldable pub written : Bool → ℕ → ℕ
written sign n = writing (with_sign sign n)

abbrev pub length_of : ℤ → ℕ
length_of z = written (negative z) (nat_abs z)

-- the length of an answer's value
unfoldable pub measure_by : Result ℤ Reason → Result ℕ Reason
measure_by (Ok z) = Ok (length_of z)
measure_by (Err why) = Err why

unfoldable pub measure_of : List ℕ → Result ℕ Reason
measure_of text = measure_by (answer_of text)

-- 13: the text is not an expression. 14: a divisor in it is zero, or a step's result is outside the bounds
abbrev pub no_expression : Result ℕ Reason → Bool
no_expression (Ok n) = false
no_expression (Err why) = eqb (reason_number why) 13

abbrev pub no_value : Result ℕ Reason → Bool
no_value (Ok n) = false
no_value (Err why) = eqb (reason_number why) 14

-- the size, where there is one
abbrev pub size_of : Result ℕ Reason → ℕ
size_of (Ok n) = n
size_of (Err why) = 0
