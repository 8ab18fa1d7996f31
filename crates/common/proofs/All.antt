-- What holds of every element of a list, by its places, of two lists joined, of a list without its front, of the list that a map gives, and two
-- things that hold together. Each by induction on the list.
use mathlib.Core.Path.{◌≡◌, refl}
use mathlib.Core.List.{List, [], ◌∷◌, ◌++◌, map}
use Prim.{Unit, tt}
use Prim.Native.Nat.{ℕ, zero, suc, ◌<◌}
use native.Mathlib.Nat.{not-suc-le-zero, le_of_suc-le-suc}
use native.Mathlib.Omega.{arith}
use lib.ListN.{length, get_or, drop}
use Rattle.common.specs.Lists.{All}

-- of whatever there are
pub all_any : {A : Type 0} (xs : List A) → All (λ x. Unit {0}) xs
unfolding All
all_any [] = tt
all_any (x ∷ xs) = (tt, all_any xs)

module _ {A : Type 0} (P : A → Type 0) where
  pub all_append : (xs ys : List A) → All P xs → All P ys → All P (xs ++ ys)
  unfolding All
  all_append [] ys a b = b
  all_append (x ∷ xs) ys a b = (a.0, all_append xs ys a.1 b)

  pub all_drop : (n : ℕ) (xs : List A) → All P xs → All P (drop n xs)
  unfolding All
  all_drop zero xs a = a
  all_drop (suc n) [] a = tt
  all_drop (suc n) (x ∷ xs) a = all_drop n xs a.1

  -- the element at a place
  pub at_all : (d : A) (xs : List A) (k : ℕ) → All P xs → k < length xs → P (get_or xs k d)
  unfolding All
  at_all d [] k a h = absurd (not-suc-le-zero h)
  at_all d (x ∷ xs) zero a h = a.0
  at_all d (x ∷ xs) (suc k) a h = at_all d xs k a.1 (le_of_suc-le-suc h)

  -- the same past the end, where the default has P too
  pub at_any : (d : A) (xs : List A) (k : ℕ) → P d → All P xs → P (get_or xs k d)
  unfolding All
  at_any d [] k e a = e
  at_any d (x ∷ xs) zero e a = a.0
  at_any d (x ∷ xs) (suc k) e a = at_any d xs k e a.1

  -- what holds by places holds of all
  pub all_at : (d : A) (xs : List A) → ((k : ℕ) → k < length xs → P (get_or xs k d)) → All P xs
  unfolding All
  all_at d [] f = tt
  all_at d (x ∷ xs) f = (f 0 (omega arith), all_at d xs (λ k h. f (suc k) (omega arith)))

  -- what follows from it
  pub all_weaken : (Q : A → Type 0) → ((x : A) → P x → Q x) → (xs : List A) → All P xs → All Q xs
  unfolding All
  all_weaken Q f [] a = tt
  all_weaken Q f (x ∷ xs) a = (f x a.0, all_weaken Q f xs a.1)

  -- and from it with another
  pub all_both : (Q R : A → Type 0) → ((x : A) → P x → Q x → R x) → (xs : List A) → All P xs → All Q xs → All R xs
  unfolding All
  all_both Q R f [] a b = tt
  all_both Q R f (x ∷ xs) a b = (f x a.0 b.0, all_both Q R f xs a.1 b.1)

  pub all_map : {B : Type 0} (Q : B → Type 0) (f : A → B) → ((x : A) → P x → Q (f x)) → (xs : List A) → All P xs → All Q (map f xs)
  unfolding All
  all_map Q f g [] a = tt
  all_map Q f g (x ∷ xs) a = (g x a.0, all_map Q f g xs a.1)

-- two maps that agree on every element
pub map_same : {A B : Type 0} (f g : A → B) (xs : List A) → All (λ x. f x ≡ g x) xs → map f xs ≡ map g xs
unfolding All
map_same f g [] a = refl
map_same f g (x ∷ xs) a = rw (a.0, map_same f g xs a.1)
