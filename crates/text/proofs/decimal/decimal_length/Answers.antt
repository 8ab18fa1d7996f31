-- `text::decimal::decimal_length` meets its contract. The invariant: the count and the digits of what is left make the digits of n and one.
-- A division by ten moves one digit over to the count; what is below ten has one digit. A 64-bit number has at most 20 digits, so that
-- the count is no overflow. The measure is what is left.
use native.Mathlib.Omega.{arith}
use Rattle.text.proofs.Digits.{digits_less, digits_more, digits_le}
use Rattle.text.proofs.decimal.decimal_length.Goals as goal

pub overflow_add-count : goal.overflow_add-count
overflow_add-count c = omega (arith, digits_le 19 c.args.n (omega arith))

pub loop-m-preserved : goal.loop-m-preserved
loop-m-preserved c = omega (arith, digits_more c.loop-m.m (omega arith))

pub returns : goal.returns
returns c = omega (arith, digits_less c.loop-m.m (omega arith))
