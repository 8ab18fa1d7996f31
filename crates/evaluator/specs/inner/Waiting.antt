-- What the code's values stand for.
use Rattle.std.specs.Prelude.{cond, ◌≡◌, List, [], ◌∷◌, ℕ, zero, suc, ◌^◌, ◌<◌, eqb, ltb, ℤ, get_or, Option, None, Some}
use Rattle.expression.specs.declared.Op.{Op}
use Rattle.evaluator.specs.declared.Frame.{Frame}
use Rattle.evaluator.specs.declared.Top.{Top}
use Rattle.evaluator.specs.declared.Top.TheVariants.{Wrong, Want, Within, Have}
use Rattle.expression.specs.Tree.{both}
use Rattle.expression.specs.Machine.{Waiting, waiting, Place, wrong, want, within, have, inner, total, wanted}
use Rattle.expression.specs.Answers.{values}

-- what waits before a number
abbrev pub onto_of : Option (Option ℤ × Op) → Option ℤ → Option ℤ
onto_of None = λ x. x
onto_of (Some (a, o)) = both o a

abbrev pub waiting_of : Frame → Waiting (Option ℤ)
waiting_of f = waiting (onto_of f.sum) (onto_of f.product)

abbrev pub place_of : Top → Place (Option ℤ)
place_of Wrong = wrong
place_of (Want f) = want (waiting_of f)
place_of (Within n v f) = within n v (waiting_of f)
place_of (Have b p) = have (onto_of b) p

abbrev pub waiting_in : Option Frame → Option (Waiting (Option ℤ))
waiting_in None = None
waiting_in (Some f) = Some (waiting_of f)

-- what waits, if a bracket may open within n others
unfoldable pub opening_at : ℕ → Place (Option ℤ) → Option (Waiting (Option ℤ))
opening_at n p = cond (ltb n 32) (wanted p) None

-- the result of a text that ends within n open brackets
unfoldable pub end_at : ℕ → Place (Option ℤ) → Option (Option ℤ)
end_at n p = cond (eqb n 0) (total values p) None

abbrev pub nothing : Frame
nothing = record { sum = None; product = None }

-- what waits outside the n open brackets
unfoldable pub outer_of : ℕ → List Frame → List (Waiting (Option ℤ))
outer_of zero l = []
outer_of (suc n) l = waiting_of (get_or l n nothing) ∷ outer_of n l

-- a number of n digits is below 10 ^ n
abbrev pub Small : Top → Type 0
Small Wrong = Unit {0}
Small (Want f) = Unit {0}
Small (Within n v f) = v < 10 ^ n
Small (Have b p) = Unit {0}

pub record SteppedPost (c : ℕ) (t r : Top) : Type 0 where
  pub is : place_of r ≡ inner values c (place_of t)
  pub small : Small r
