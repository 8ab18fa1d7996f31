-- Lists of numbers as the buffers and the columns of a sheet have them, and what holds of every element.
use Rattle.std.specs.Prelude.{◌≡◌, Bool, false, ◌||◌, List, [], ◌∷◌, ◌++◌, ℕ, ◌+◌, ◌-◌, ◌≤◌, eqb, length, replicate}

-- the sum of the figures
unfoldable pub sum : List ℕ → ℕ
sum [] = 0
sum (x ∷ xs) = x + sum xs

-- whether x is one of the figures
unfoldable pub mem : ℕ → List ℕ → Bool
mem x [] = false
mem x (y ∷ ys) = eqb x y || mem x ys

-- every element of the list has P
unfoldable pub All : {A : Type 0} → (A → Type 0) → List A → Type 0
All P [] = Unit {0}
All P (x ∷ xs) = P x × All P xs

-- the elements lie side by side from column p on, without a hole: each starts where the one before ends, spans at least one column, and the last
-- ends within the columns
unfoldable pub Tiles : {A : Type 0} → (first span : A → ℕ) → (columns p : ℕ) → List A → Type 0
Tiles first span columns p [] = p ≤ columns
Tiles first span columns p (x ∷ xs) = (first x ≡ p) × (1 ≤ span x) × Tiles first span columns (p + span x) xs

-- a list, and zeros up to n places: what a call leaves in a buffer of n places
abbrev pub padded : ℕ → List ℕ → List ℕ
padded n xs = xs ++ replicate (n - length xs) 0
