-- A set of column edges, and the number of an edge. A position p is bit p % 64 of word p / 64: words are spoken of here alone.
use Rattle.std.specs.Prelude.{Bool, true, cond, ◌&&◌, List, [], ◌∷◌, ℕ, zero, suc, ◌+◌}

-- how many positions below p are in a set
unfoldable pub count_below : (ℕ → Bool) → ℕ → ℕ
count_below f zero = 0
count_below f (suc p) = count_below f p + cond (f p) 1 0

-- where the entries of a row end, from position p on, by their spans
unfoldable pub ends_from : ℕ → List ℕ → List ℕ
ends_from p [] = []
ends_from p (s ∷ ss) = (p + s) ∷ ends_from (p + s) ss

-- each position of a list is in a set
unfoldable pub all_at : (ℕ → Bool) → List ℕ → Bool
all_at f [] = true
all_at f (p ∷ ps) = f p && all_at f ps
