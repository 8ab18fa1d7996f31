-- `widths::share_of` meets its contract. Two numbers of 32 bits have a product of 64. As the size is at most the total, the quotient is at most
-- the width and fits 32 bits. Where the size is 0 the share is 0, else it is the definition's other case.
use mathlib.Core.Path.{◌≡◌, ap₂}
use Prim.Native.Nat.{ℕ, ◌*◌, ◌/◌}
use native.Mathlib.Omega.{arith}
use Rattle.widths.specs.Share.{share}
use Rattle.widths.proofs.Share.{share_some, product_fits, part_le}
use Rattle.widths.proofs.share_of.Goals as goal
use Rattle.widths.proofs.share_of.Goals.{After-from-2}

-- the quotient that the code takes
product : (c : After-from-2) → let a = c.args in
    c.from.result * c.from-2.result / a.all ≡ a.size * a.width / a.all
product c = ap₂ (λ (x y : ℕ). x * y / c.args.all) c.from.ensures c.from-2.ensures

pub returns-then-size-eq0 : goal.returns-then-size-eq0
unfolding share
returns-then-size-eq0 c = rw c.if-size-eq0.true

pub overflow_mul-part : goal.overflow_mul-part
overflow_mul-part c = record { fits = product_fits _ _ (omega arith) (omega arith) }

pub overflow_cast-part : goal.overflow_cast-part
overflow_cast-part c = omega (arith, part_le c.args.size c.args.width c.args.all c.requires, product (goal.at.overflow_cast-part c).After-from-2)

pub returns : goal.returns
returns c =
    let a = c.args in
    omega (arith, product (goal.at.returns c).After-from-2, share_some a.size a.least a.width a.all (omega arith))
