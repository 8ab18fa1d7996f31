-- Sizes of sums, computed.
use mathlib.Core.Bool.{true, false}
use mathlib.Core.Path.{◌≡◌, refl, ap}
use mathlib.Core.List.{[], ◌∷◌}
use Prim.Native.Nat.{ℕ, ◌+◌}
use lib.Dec.{lit<, lit≤}
use Rattle.text.specs.Decimal.{digits_in, digits, writing}
use Rattle.text.proofs.Digits.{digits_at}
use Rattle.expression.specs.Tree.{result_of, both}
use Rattle.expression.specs.Grammar.{digit}
use Rattle.expression.specs.Machine.{total, wanted, operator, inner, opened, closed, step, finish, run}
use Rattle.expression.specs.Answers.{answer_by, answer_of}
use Rattle.std.specs.Prelude.{Ok, Err}
use Rattle.common.specs.declared.Reason.TheVariants.{NoExpression, OutOfBounds}
use Rattle.evaluator.specs.Measures.{written, measure_by, measure_of}

-- 420, -3 and 0, and the lower bound
lengths : (written false 420 ≡ 3) × (written true 3 ≡ 2) × (written false 0 ≡ 1)
unfolding written writing digits digits_in
lengths = (refl, refl, refl)

longest : written true 1000000000000 ≡ 14
unfolding written writing
longest = ap (λ (m : ℕ). m + 1) (digits_at 12 1000000000000 (lit≤ tt) (lit< tt))

-- (3+4)*120/2
worked_size : measure_of (40 ∷ 51 ∷ 43 ∷ 52 ∷ 41 ∷ 42 ∷ 49 ∷ 50 ∷ 48 ∷ 47 ∷ 50 ∷ []) ≡ Ok 3
unfolding measure_of measure_by written writing digits digits_in answer_of answer_by run step total wanted operator inner opened closed finish digit both result_of
worked_size = refl

-- (0-7)/2
minus_size : measure_of (40 ∷ 48 ∷ 45 ∷ 55 ∷ 41 ∷ 47 ∷ 50 ∷ []) ≡ Ok 2
unfolding measure_of measure_by written writing digits digits_in answer_of answer_by run step total wanted operator inner opened closed finish digit both result_of
minus_size = refl

-- (0-1)/2
zero_size : measure_of (40 ∷ 48 ∷ 45 ∷ 49 ∷ 41 ∷ 47 ∷ 50 ∷ []) ≡ Ok 1
unfolding measure_of measure_by written writing digits digits_in answer_of answer_by run step total wanted operator inner opened closed finish digit both result_of
zero_size = refl

-- 1/0+ is 13, 1/0 is 14
cut_off : measure_of (49 ∷ 47 ∷ 48 ∷ 43 ∷ []) ≡ Err NoExpression
unfolding measure_of measure_by answer_of answer_by run step total wanted operator inner opened closed finish digit both result_of
cut_off = refl

by_nothing : measure_of (49 ∷ 47 ∷ 48 ∷ []) ≡ Err OutOfBounds
unfolding measure_of measure_by answer_of answer_by run step total wanted operator inner opened closed finish digit both result_of
by_nothing = refl
