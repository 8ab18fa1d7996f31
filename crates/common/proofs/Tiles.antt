-- Elements that tile columns: the first starts within the columns, and so each spans at least one of them and ends within them. Each by induction
-- on the list.
use mathlib.Core.List.{List, [], ◌∷◌, map}
use Prim.{tt}
use Prim.Native.Nat.{ℕ, ◌+◌, ◌≤◌}
use native.Mathlib.Omega.{arith}
use Rattle.common.specs.Lists.{All, Tiles}

module _ {A : Type 0} (first span : A → ℕ) where
  pub tiles_start : (n p : ℕ) (xs : List A) → Tiles first span n p xs → p ≤ n
  unfolding Tiles
  tiles_start n p [] t = t
  tiles_start n p (x ∷ xs) t = omega (arith, tiles_start n (p + span x) xs t.2)

  pub tiles_within : (n p : ℕ) (xs : List A) → Tiles first span n p xs → All (λ x. (1 ≤ span x) × (first x + span x ≤ n)) xs
  unfolding All Tiles
  tiles_within n p [] t = tt
  tiles_within n p (x ∷ xs) t = ((t.1, omega (arith, t.0, tiles_start n (p + span x) xs t.2)), tiles_within n (p + span x) xs t.2)

  -- what a map gives, if it keeps first columns and spans
  pub tiles_map : {B : Type 0} (f : B → A) (n p : ℕ) (xs : List B) → Tiles (λ x. first (f x)) (λ x. span (f x)) n p xs → Tiles first span n p (map f xs)
  unfolding Tiles
  tiles_map f n p [] t = t
  tiles_map f n p (x ∷ xs) t = (t.0, t.1, tiles_map f n (p + span (f x)) xs t.2)
