-- The tree of a sum, and its value.
use Rattle.std.specs.Prelude.{cond, ℕ, eqb, leb, ℤ, pos, nat_abs, ◌+ℤ◌, ◌-ℤ◌, ◌*ℤ◌, Option, None, Some}
use Rattle.std.specs.Int.Signed.{quot_z}
use Rattle.expression.specs.declared.Op.{Op}
use Rattle.expression.specs.declared.Op.TheVariants.{Plus, Minus, Times, Over}

pub data Tree : Type 0 where
  number : ℕ → Tree
  node : Op → Tree → Tree → Tree

-- the bound of each step's result
abbrev pub limit : ℕ
limit = 1000000000000

abbrev pub within : ℤ → Option ℤ
within z = cond (leb (nat_abs z) limit) (Some z) None

-- the result of a step; `quot_z` is the quotient towards zero
unfoldable pub result_of : Op → ℤ → ℤ → Option ℤ
result_of Plus a b = within (a +ℤ b)
result_of Minus a b = within (a -ℤ b)
result_of Times a b = within (a *ℤ b)
result_of Over a b = cond (eqb (nat_abs b) 0) None (within (quot_z a b))

unfoldable pub both : Op → Option ℤ → Option ℤ → Option ℤ
both o None b = None
both o (Some x) None = None
both o (Some x) (Some y) = result_of o x y

-- the value of a tree, none if a divisor in it is 0 or a step's result is outside plus or minus the bound
unfoldable pub value : Tree → Option ℤ
value (number n) = Some (pos n)
value (node o a b) = both o (value a) (value b)
