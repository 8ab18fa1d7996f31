-- Records of w numbers each, one after the other in a list.
use Rattle.std.specs.Prelude.{List, [], ◌∷◌, map, ℕ, zero, suc, ◌/◌, length, take, drop}

-- the first n records
unfoldable pub records : ℕ → ℕ → List ℕ → List (List ℕ)
records w zero xs = []
records w (suc n) xs = take w xs ∷ records w n (drop w xs)

-- all that the list has room for, each made of its w numbers
unfoldable pub records_of : {A : Type 0} → ℕ → (List ℕ → A) → List ℕ → List A
records_of w make xs = map make (records w (length xs / w) xs)
