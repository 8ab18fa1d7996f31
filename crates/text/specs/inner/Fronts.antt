-- The front of a text, up to a byte that stops it.
use Rattle.std.specs.Prelude.{◌≡◌, cond, ◌||◌, List, [], ◌∷◌, ℕ, ◌+◌, eqb, length, drop}
use Rattle.text.specs.Bytes.{is_refused}
use Rattle.text.specs.declared.Front.{Front}

-- the longest front without the byte `stop` and without a refused byte
unfoldable pub front_of : ℕ → List ℕ → List ℕ
front_of stop [] = []
front_of stop (b ∷ bs) = cond (eqb b stop || is_refused b) [] (b ∷ front_of stop bs)

-- the front of a text that starts at a place: where it ends, and its size by a measure
pub record FrontAt (measure : List ℕ → ℕ) (stop : ℕ) (text : List ℕ) (from : ℕ) (r : Front) : Type 0 where
  pub end : r.end ≡ from + length (front_of stop (drop from text))
  pub size : r.size ≡ measure (front_of stop (drop from text))
