-- `evaluator::stepped` meets its contract. By the place and the byte: each case is a law of proofs/Turns.antt.
use Prim.Native.Nat.{◌+◌, ◌*◌}
use native.Mathlib.Omega.{arith}
use Rattle.std.proofs.Common.{w64, rules, pos}
use Rattle.std.proofs.Math.Facts.{to_z-of_z}
use Rattle.evaluator.proofs.Turns.{told_digit, roomy_of, wrong_stays, no_factor, first_digit, next_digit, too_long_lem, number_ends, factor_ends}
use Rattle.evaluator.proofs.stepped.Goals as goal

pub returns-then-is_ascii_digit : goal.returns-then-is_ascii_digit
returns-then-is_ascii_digit c = first_digit c.args.c c.from.result c.args.t c.in-Want.f c.in-Want.is (told_digit c.args.c c.is_ascii_digit.ensures.value c.if-is_ascii_digit.true) (omega (arith, c.from.ensures))

pub overflow_mul-result : goal.overflow_mul-result
overflow_mul-result c = omega (arith, roomy_of c.args.t c.in-Within.n c.in-Within.v c.in-Within.f c.in-Within.is c.requires c.if-n-lt9.true)

pub overflow_add-result-then-n-lt9 : goal.overflow_add-result-then-n-lt9
overflow_add-result-then-n-lt9 c = omega (arith, roomy_of c.args.t c.in-Within.n c.in-Within.v c.in-Within.f c.in-Within.is c.requires c.if-n-lt9.true, c.from-then-n-lt9.ensures)

pub returns-then-n-lt9 : goal.returns-then-n-lt9
returns-then-n-lt9 c = next_digit c.args.c (10 * c.in-Within.v + c.from-then-n-lt9.result) c.args.t c.in-Within.n c.in-Within.v c.in-Within.f c.in-Within.is c.requires (told_digit c.args.c c.is_ascii_digit-in-Within.ensures.value c.if-is_ascii_digit-2.true) c.if-n-lt9.true (omega (arith, c.from-then-n-lt9.ensures))

pub returns-then-is_ascii_digit-2 : goal.returns-then-is_ascii_digit-2
returns-then-is_ascii_digit-2 c = too_long_lem c.args.c c.args.t c.in-Within.n c.in-Within.v c.in-Within.f c.in-Within.is (told_digit c.args.c c.is_ascii_digit-in-Within.ensures.value c.if-is_ascii_digit-2.true) c.if-n-lt9.false

pub returns-in-Wrong : goal.returns-in-Wrong
returns-in-Wrong c = wrong_stays c.args.c c.args.t c.in-Wrong.is

pub returns-else-is_ascii_digit : goal.returns-else-is_ascii_digit
returns-else-is_ascii_digit c = no_factor c.args.c c.args.t c.in-Want.f c.in-Want.is (told_digit c.args.c c.is_ascii_digit.ensures.value c.if-is_ascii_digit.false)

pub returns-else-is_ascii_digit-2 : goal.returns-else-is_ascii_digit-2
returns-else-is_ascii_digit-2 c = number_ends c.args.c c.args.t c.operator.result c.in-Within.n c.in-Within.v c.in-Within.f c.onto.result c.in-Within.is (told_digit c.args.c c.is_ascii_digit-in-Within.ensures.value c.if-is_ascii_digit-2.false) (simp (c.from-in-Within.ensures, to_z-of_z {w = w64} {z = pos c.in-Within.v} (search rules)) at c.onto.ensures) c.operator.ensures.result_value c.operator.ensures.small

pub returns-in-Have : goal.returns-in-Have
returns-in-Have c = factor_ends c.args.c c.args.t c.operator-in-Have.result c.in-Have.sum c.in-Have.p c.in-Have.is c.operator-in-Have.ensures.result_value c.operator-in-Have.ensures.small
