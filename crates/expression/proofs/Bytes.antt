-- Digits and texts.
use mathlib.Core.Bool.{Bool, true, false, ◌&&◌}
use mathlib.Core.Path.{◌≡◌, refl}
use mathlib.Core.List.{List, [], ◌∷◌, ◌++◌}
use Prim.Native.Nat.{ℕ, suc, ◌+◌, ◌*◌, ◌-◌, ◌^◌, ◌≤◌, ◌<◌}
use native.Mathlib.Nat.{pow-succ'}
use native.Mathlib.Numerals.{add-one}
use native.Mathlib.Omega.{arith}
use lib.Dec.{eqb, leb}
use lib.ListN.{length}
use borrow.Author.Tests.{leb-true, ne_eqb}
use Rattle.expression.specs.Grammar.{digit, all_digits, decimal_from}

pub and_left : (a b : Bool) → (a && b) ≡ true → a ≡ true
and_left true b e = refl
and_left false b e = e

pub and_right : (a b : Bool) → (a && b) ≡ true → b ≡ true
and_right true b e = e
and_right false b e = let z : ◌≡◌ {A = ℕ} 0 1 = cc in absurd (omega arith)

-- a digit is at least 48 and at most 57
pub at_least : (c : ℕ) → digit c ≡ true → 48 ≤ c
unfolding digit
at_least c e = leb-true 48 c (and_left (leb 48 c) (leb c 57) e)

pub at_most : (c : ℕ) → digit c ≡ true → c ≤ 57
unfolding digit
at_most c e = leb-true c 57 (and_right (leb 48 c) (leb c 57) e)

pub not_opening : (c : ℕ) → digit c ≡ true → eqb c 40 ≡ false
not_opening c e = ne_eqb c 40 (λ q. omega (arith, at_least c e))

pub not_closing : (c : ℕ) → digit c ≡ true → eqb c 41 ≡ false
not_closing c e = ne_eqb c 41 (λ q. omega (arith, at_least c e))

-- whether a digit comes next
unfoldable pub next : List ℕ → Bool
next [] = false
next (c ∷ cs) = digit c

pub digits_snoc : (w : List ℕ) (c : ℕ) → all_digits w ≡ true → digit c ≡ true → all_digits (w ++ (c ∷ [])) ≡ true
unfolding all_digits
digits_snoc [] c e d = rw d
digits_snoc (x ∷ w) c e d =
    rw (and_left (digit x) (all_digits w) e) (digits_snoc w c (and_right (digit x) (all_digits w) e) d)

pub decimal_snoc : (n : ℕ) (w : List ℕ) (c : ℕ) → decimal_from n (w ++ (c ∷ [])) ≡ 10 * decimal_from n w + (c - 48)
unfolding decimal_from
decimal_snoc n [] c = refl
decimal_snoc n (x ∷ w) c = decimal_snoc (10 * n + (x - 48)) w c

-- a number of n digits is below 10 ^ n
pub grown : (n v c : ℕ) → v < 10 ^ n → digit c ≡ true → 10 * v + (c - 48) < 10 ^ (n + 1)
grown n v c h d = rw (add-one n, pow-succ' 10 n) (omega (arith, at_most c d))

pub decimal_below : (w : List ℕ) (v j : ℕ) → all_digits w ≡ true → v < 10 ^ j → decimal_from v w < 10 ^ (j + length w)
unfolding decimal_from all_digits
decimal_below [] v j e h = let q : j + 0 ≡ j = omega arith in rw q h
decimal_below (c ∷ w) v j e h =
    let q : j + suc (length w) ≡ j + 1 + length w = omega arith in
    rw q
    (decimal_below w (10 * v + (c - 48)) (j + 1) (and_right (digit c) (all_digits w) e)
    (grown j v c h (and_left (digit c) (all_digits w) e)))
