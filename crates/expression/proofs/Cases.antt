-- Texts and their answers, computed.
use mathlib.Core.Path.{◌≡◌, refl}
use mathlib.Core.List.{List, [], ◌∷◌, ◌++◌}
use lib.ListN.{replicate}
use Prim.Native.Nat.{ℕ}
use Rattle.std.specs.Prelude.{Ok, Err, pos, neg_ℤ}
use Rattle.common.specs.declared.Reason.TheVariants.{NoExpression, OutOfBounds}
use Rattle.expression.specs.Tree.{result_of, both}
use Rattle.expression.specs.Grammar.{digit}
use Rattle.expression.specs.Machine.{total, wanted, operator, inner, opened, closed, step, finish, run}
use Rattle.expression.specs.Answers.{answer_by, answer_of}

-- (3+4)*120/2
worked : answer_of (40 ∷ 51 ∷ 43 ∷ 52 ∷ 41 ∷ 42 ∷ 49 ∷ 50 ∷ 48 ∷ 47 ∷ 50 ∷ []) ≡ Ok (pos 420)
unfolding answer_of answer_by run step total wanted operator inner opened closed finish digit both result_of
worked = refl

-- (0-7)/2
towards_zero : answer_of (40 ∷ 48 ∷ 45 ∷ 55 ∷ 41 ∷ 47 ∷ 50 ∷ []) ≡ Ok (neg_ℤ (pos 3))
unfolding answer_of answer_by run step total wanted operator inner opened closed finish digit both result_of
towards_zero = refl

-- 7/2*2
left_to_right : answer_of (55 ∷ 47 ∷ 50 ∷ 42 ∷ 50 ∷ []) ≡ Ok (pos 6)
unfolding answer_of answer_by run step total wanted operator inner opened closed finish digit both result_of
left_to_right = refl

-- 8/4/2
quotients : answer_of (56 ∷ 47 ∷ 52 ∷ 47 ∷ 50 ∷ []) ≡ Ok (pos 1)
unfolding answer_of answer_by run step total wanted operator inner opened closed finish digit both result_of
quotients = refl

-- 9-4-3
differences : answer_of (57 ∷ 45 ∷ 52 ∷ 45 ∷ 51 ∷ []) ≡ Ok (pos 2)
unfolding answer_of answer_by run step total wanted operator inner opened closed finish digit both result_of
differences = refl

-- 2+3*4
closer : answer_of (50 ∷ 43 ∷ 51 ∷ 42 ∷ 52 ∷ []) ≡ Ok (pos 14)
unfolding answer_of answer_by run step total wanted operator inner opened closed finish digit both result_of
closer = refl

-- 1/0+
cut_off : answer_of (49 ∷ 47 ∷ 48 ∷ 43 ∷ []) ≡ Err NoExpression
unfolding answer_of answer_by run step total wanted operator inner opened closed finish digit both result_of
cut_off = refl

-- 1/0
by_nothing : answer_of (49 ∷ 47 ∷ 48 ∷ []) ≡ Err OutOfBounds
unfolding answer_of answer_by run step total wanted operator inner opened closed finish digit both result_of
by_nothing = refl

-- 0*(1/0)
every_step : answer_of (48 ∷ 42 ∷ 40 ∷ 49 ∷ 47 ∷ 48 ∷ 41 ∷ []) ≡ Err OutOfBounds
unfolding answer_of answer_by run step total wanted operator inner opened closed finish digit both result_of
every_step = refl

-- 2*-3
sign_before : answer_of (50 ∷ 42 ∷ 45 ∷ 51 ∷ []) ≡ Err NoExpression
unfolding answer_of answer_by run step total wanted operator inner opened closed finish digit both result_of
sign_before = refl

-- 1234567890
ten_digits : answer_of (49 ∷ 50 ∷ 51 ∷ 52 ∷ 53 ∷ 54 ∷ 55 ∷ 56 ∷ 57 ∷ 48 ∷ []) ≡ Err NoExpression
unfolding answer_of answer_by run step total wanted operator inner opened closed finish digit both result_of
ten_digits = refl

-- 0000000001
ten_zeros : answer_of (48 ∷ 48 ∷ 48 ∷ 48 ∷ 48 ∷ 48 ∷ 48 ∷ 48 ∷ 48 ∷ 49 ∷ []) ≡ Err NoExpression
unfolding answer_of answer_by run step total wanted operator inner opened closed finish digit both result_of
ten_zeros = refl

-- 007
leading_zeros : answer_of (48 ∷ 48 ∷ 55 ∷ []) ≡ Ok (pos 7)
unfolding answer_of answer_by run step total wanted operator inner opened closed finish digit both result_of
leading_zeros = refl

-- 1000000*1000000
at_the_bound : answer_of (49 ∷ 48 ∷ 48 ∷ 48 ∷ 48 ∷ 48 ∷ 48 ∷ 42 ∷ 49 ∷ 48 ∷ 48 ∷ 48 ∷ 48 ∷ 48 ∷ 48 ∷ []) ≡ Ok (pos 1000000000000)
unfolding answer_of answer_by run step total wanted operator inner opened closed finish digit both result_of
at_the_bound = refl

-- 1000000*1000000+1-1
past_the_bound : answer_of (49 ∷ 48 ∷ 48 ∷ 48 ∷ 48 ∷ 48 ∷ 48 ∷ 42 ∷ 49 ∷ 48 ∷ 48 ∷ 48 ∷ 48 ∷ 48 ∷ 48 ∷ 43 ∷ 49 ∷ 45 ∷ 49 ∷ []) ≡ Err OutOfBounds
unfolding answer_of answer_by run step total wanted operator inner opened closed finish digit both result_of
past_the_bound = refl

-- 0*(0-3)
no_minus_zero : answer_of (48 ∷ 42 ∷ 40 ∷ 48 ∷ 45 ∷ 51 ∷ 41 ∷ []) ≡ Ok (pos 0)
unfolding answer_of answer_by run step total wanted operator inner opened closed finish digit both result_of
no_minus_zero = refl

-- an empty text
empty : answer_of ([]) ≡ Err NoExpression
unfolding answer_of answer_by run step total wanted operator inner opened closed finish digit both result_of
empty = refl

-- 1 +2
blank : answer_of (49 ∷ 32 ∷ 43 ∷ 50 ∷ []) ≡ Err NoExpression
unfolding answer_of answer_by run step total wanted operator inner opened closed finish digit both result_of
blank = refl

-- brackets, a 1, brackets
abbrev nested : ℕ → List ℕ
nested n = replicate n 40 ++ (49 ∷ replicate n 41)

deepest : answer_of (nested 32) ≡ Ok (pos 1)
unfolding answer_of answer_by run step total wanted operator inner opened closed finish digit both result_of
deepest = refl

too_deep : answer_of (nested 33) ≡ Err NoExpression
unfolding answer_of answer_by run step total wanted operator inner opened closed finish digit both result_of
too_deep = refl
