-- A step's result in 64 bits: where it does not fit it is outside the bounds.
use Rattle.std.specs.Prelude.{◌≡◌, refl, Bool, true, false, cond, suc, leb, eqb, ℤ, pos, negsuc, nat_abs, Option, None, Some, SomeIff, FitsSigned, int_div, option_and_then}
use Rattle.std.specs.Int.{IsNonZero, CanDivide}
use Rattle.std.proofs.Common.{w64}
use mathlib.Core.Path.{ap}
use native.Mathlib.Omega.{arith}
use borrow.Author.Tests.{leb-true, eqb-true, eqb-false}
use Rattle.std.proofs.lemmas.Int.{fits_signed_from_abs}
use Rattle.expression.specs.declared.Op.TheVariants.{Over}
use Rattle.expression.specs.Tree.{limit, within, result_of}

too_large : (z : ℤ) → (FitsSigned w64 z → ⊥) → ◌≡◌ {A = Option ℤ} None (within z)
too_large z h = go (leb (nat_abs z) limit) refl
  where
    go : (b : Bool) → leb (nat_abs z) limit ≡ b → ◌≡◌ {A = Option ℤ} None (cond b (Some z) None)
    go true e = absurd (h (fits_signed_from_abs w64 z (omega (arith, leb-true (nat_abs z) limit e))))
    go false e = refl

-- a step that std checks
pub checked : (z : ℤ) (r : Option ℤ) → SomeIff r (FitsSigned w64 z) z → option_and_then within r ≡ within z
checked z None h = too_large z h
checked z (Some x) h = ap within h.1

-- the size of a divisor, and whether std takes it for one
nonzero : (b : ℤ) → eqb (nat_abs b) 0 ≡ false → FitsSigned w64 b → IsNonZero w64 b
nonzero (pos n) e f = omega (arith, eqb-false n 0 e)
nonzero (negsuc n) e f = omega (arith, f)

zero_size : (b : ℤ) → eqb (nat_abs b) 0 ≡ true → IsNonZero w64 b → ⊥
zero_size (pos n) e f = omega (arith, eqb-true n 0 e, f)
zero_size (negsuc n) e f = omega (arith, eqb-true (suc n) 0 e)

pub divided : (a b : ℤ) (r : Option ℤ) → FitsSigned w64 b → SomeIff r (CanDivide w64 a b) (int_div a b) → option_and_then within r ≡ result_of Over a b
unfolding result_of
divided a b r f h = go (eqb (nat_abs b) 0) refl r h
  where
    go : (u : Bool) → eqb (nat_abs b) 0 ≡ u → (r : Option ℤ) → SomeIff r (CanDivide w64 a b) (int_div a b) → option_and_then within r ≡ cond u None (within (int_div a b))
    go true z None h = refl
    go true z (Some x) h = absurd (zero_size b z h.0.0)
    go false z None h = too_large (int_div a b) (λ t. h (nonzero b z f, t))
    go false z (Some x) h = ap within h.1
