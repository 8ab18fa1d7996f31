-- The code's step at a byte that is no bracket.
use mathlib.Core.Bool.{Bool, true, false}
use mathlib.Core.Path.{◌≡◌, sym, ap, ◌∙◌, subst}
use Rattle.std.specs.Prelude.{Option, Some}
use Prim.Native.Nat.{ℕ, ◌+◌, ◌*◌, ◌-◌, ◌^◌, ◌≤◌, ◌<◌}
use native.Mathlib.Nat.{pow-le-pow_right}
use native.Mathlib.Omega.{arith}
use lib.IntN.{ℤ, pos}
use borrow.Author.Tests.{lt-ltb, le-ltb}
use Rattle.expression.specs.declared.Op.{Op}
use Rattle.evaluator.specs.declared.Frame.{Frame}
use Rattle.evaluator.specs.declared.Top.{Top}
use Rattle.evaluator.specs.declared.Top.TheVariants.{Wrong, Want, Within, Have}
use Rattle.std.specs.Char.{is_ascii_digit}
use Rattle.expression.specs.Grammar.{digit}
use Rattle.expression.specs.Machine.{operator, inner}
use Rattle.expression.specs.Answers.{values}
use Rattle.evaluator.specs.inner.Waiting.{onto_of, place_of, Small, SteppedPost}
use Rattle.expression.proofs.Bytes.{at_most, grown}

-- std's test of a byte is `digit`
pub told_digit : (c : ℕ) {r b : Bool} → r ≡ is_ascii_digit c → r ≡ b → digit c ≡ b
unfolding digit
told_digit c v t = sym v ∙ t

-- a number of fewer than nine digits has room for one more
pub roomy : (n v : ℕ) → v < 10 ^ n → n < 9 → v < 100000000
roomy n v h l = omega (arith, pow-le-pow_right {n = 10} (omega arith) {i = n} {j = 8} (omega arith))

pub roomy_of : (t : Top) (n v : ℕ) (f : Frame) → t ≡ Within n v f → Small t → n < 9 → v < 100000000
roomy_of t n v f e s l = roomy n v (subst Small e s) l

pub wrong_stays : (c : ℕ) (t : Top) → t ≡ Wrong → SteppedPost c t Wrong
unfolding inner
wrong_stays c t e = record { is = rw e; small = tt }

pub no_factor : (c : ℕ) (t : Top) (f : Frame) → t ≡ Want f → digit c ≡ false → SteppedPost c t Wrong
unfolding inner
no_factor c t f e d = record { is = rw (e, d); small = tt }

pub first_digit : (c r : ℕ) (t : Top) (f : Frame) → t ≡ Want f → digit c ≡ true → r ≡ 10 * 0 + (c - 48) → SteppedPost c t (Within 1 r f)
unfolding inner
first_digit c r t f e d h =
    let q : r ≡ c - 48 = omega arith in
    record { is = rw (e, d, q); small = omega (arith, at_most c d) }

pub next_digit : (c r : ℕ) (t : Top) (n v : ℕ) (f : Frame) → t ≡ Within n v f → Small t → digit c ≡ true → n < 9 → r ≡ 10 * v + (c - 48) → SteppedPost c t (Within (n + 1) r f)
unfolding inner
next_digit c r t n v f e s d l h =
    record { is = rw (e, d, lt-ltb n 9 l, h); small = rw h (grown n v c (subst Small e s) d) }

pub too_long_lem : (c : ℕ) (t : Top) (n v : ℕ) (f : Frame) → t ≡ Within n v f → digit c ≡ true → 9 ≤ n → SteppedPost c t Wrong
unfolding inner
too_long_lem c t n v f e d l = record { is = rw (e, d, le-ltb n 9 l); small = tt }

pub number_ends : (c : ℕ) (t r : Top) (n v : ℕ) (f : Frame) (x : Option ℤ) → t ≡ Within n v f → digit c ≡ false → x ≡ onto_of f.product (Some (pos v)) → place_of r ≡ operator values c (onto_of f.sum) x → Small r → SteppedPost c t r
unfolding inner
number_ends c t r n v f x e d p h s =
    record { is = rw (e, d) (h ∙ ap (operator values c (onto_of f.sum)) p); small = s }

pub factor_ends : (c : ℕ) (t r : Top) (b : Option (Option ℤ × Op)) (x : Option ℤ) → t ≡ Have b x → place_of r ≡ operator values c (onto_of b) x → Small r → SteppedPost c t r
unfolding inner
factor_ends c t r b x e h s = record { is = rw e h; small = s }
