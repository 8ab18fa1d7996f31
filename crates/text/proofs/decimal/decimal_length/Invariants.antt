-- `text::decimal::decimal_length` meets its contract. The invariant: the count and the digits of what is left make the digits of n and one.
-- A division by ten moves one digit over to the count; what is below ten has one digit. A 64-bit number has at most 20 digits, so that
-- the count is no overflow. The measure is what is left.
use mathlib.Core.Path.{◌≡◌}
use Prim.Native.Nat.{◌+◌}
use Rattle.text.specs.Decimal.{digits}
use Rattle.text.proofs.decimal.decimal_length.Given as goal

abbrev pub invariant-loop-m : goal.invariant-loop-m
invariant-loop-m l = l.count + digits l.m ≡ 1 + digits l.n

abbrev pub decreases-loop-m : goal.decreases-loop-m
decreases-loop-m l = l.m
