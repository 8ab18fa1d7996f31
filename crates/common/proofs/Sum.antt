-- The sum of a list, after one figure is set and of two lists. Each by induction on the list.
use mathlib.Core.Path.{◌≡◌, refl}
use mathlib.Core.List.{List, [], ◌∷◌, ◌++◌, map}
use Prim.Native.Nat.{ℕ, zero, suc, ◌+◌, ◌≤◌, ◌<◌}
use native.Mathlib.Nat.{not-suc-le-zero, le_of_suc-le-suc}
use native.Mathlib.Numerals.{add-one}
use native.Mathlib.Omega.{arith}
use lib.ListN.{length, get_or, set, take}
use lib.Seq.{take-suc}
use Rattle.common.specs.Lists.{sum}

pub sum_append : (xs ys : List ℕ) → sum (xs ++ ys) ≡ sum xs + sum ys
unfolding sum
sum_append [] ys = omega arith
sum_append (x ∷ xs) ys = omega (arith, sum_append xs ys)

pub sum_snoc : (xs : List ℕ) (x : ℕ) → sum (xs ++ (x ∷ [])) ≡ sum xs + x
unfolding sum
sum_snoc xs x = omega (arith, sum_append xs (x ∷ []))

pub sum_set : (xs : List ℕ) (i v : ℕ) → i < length xs → sum (set xs i v) + get_or xs i 0 ≡ sum xs + v
unfolding sum
sum_set [] i v h = absurd (not-suc-le-zero h)
sum_set (x ∷ xs) zero v h = omega arith
sum_set (x ∷ xs) (suc i) v h = omega (arith, sum_set xs i v (le_of_suc-le-suc h))

-- one figure more
pub sum_take_more : (xs : List ℕ) (i : ℕ) → i < length xs → sum (take (i + 1) xs) ≡ sum (take i xs) + get_or xs i 0
sum_take_more xs i h = rw (add-one, take-suc xs i 0 h) (sum_snoc (take i xs) (get_or xs i 0))

pub sum_take_le : (xs : List ℕ) (i : ℕ) → sum (take i xs) ≤ sum xs
unfolding sum
sum_take_le [] zero = omega arith
sum_take_le [] (suc i) = omega arith
sum_take_le (x ∷ xs) zero = omega arith
sum_take_le (x ∷ xs) (suc i) = omega (arith, sum_take_le xs i)

-- map, one element more
pub map_snoc : {A B : Type 0} (f : A → B) (xs : List A) (x : A) → map f (xs ++ (x ∷ [])) ≡ map f xs ++ (f x ∷ [])
map_snoc f [] x = refl
map_snoc f (y ∷ xs) x = rw (map_snoc f xs x)
