-- A row of the grid is a part of all placed entries: from behind the rows before it up to its own end. By induction on the rows; below the last row
-- stands nothing.
use mathlib.Core.Path.{◌≡◌, refl, sym, ap, ap₂, ◌∙◌}
use mathlib.Core.List.{List, [], ◌∷◌, ◌++◌}
use Prim.Native.Nat.{ℕ, zero, suc, ◌+◌, ◌≤◌}
use native.Mathlib.Omega.{arith}
use lib.ListN.{length, get_or, take, drop, length-append}
use lib.Seq.{slice, take_at, take-take, take-append-add, drop-append-add}
use Rattle.columns.specs.Boxes.{Box, flat}
use Rattle.answers.specs.declared.Way.{Way}
use Rattle.answers.specs.declared.Way.TheVariants.{Sideways, Down}
use Rattle.placement.specs.Place.{Placed, place_side, place_down, place_row, place_rows}
use Rattle.placement.specs.inner.Rows.{Written}
use Rattle.placement.proofs.Placing.{length_row}
use Rattle.hit_test.specs.Point.{placed}
use Rattle.hit_test.proofs.Parts.{placed_take, placed_written}

-- how many entries stand in the first k rows
abbrev pub before : List (List Box) → ℕ → ℕ
before rows k = length (flat (take k rows))

before_cons : (r : List Box) (rows : List (List Box)) (k : ℕ) → before (r ∷ rows) (suc k) ≡ length r + before rows k
unfolding flat
before_cons r rows k = length-append r (flat (take k rows))

pub before_next : (rows : List (List Box)) (k : ℕ) → before rows k ≤ before rows (suc k)
unfolding flat
before_next [] zero = omega arith
before_next [] (suc k) = omega arith
before_next (r ∷ rows) zero = omega arith
before_next (r ∷ rows) (suc k) = omega (arith, before_cons r rows k, before_cons r rows (suc k), before_next rows k)

pub before_all : (rows : List (List Box)) (k : ℕ) → before rows k ≤ length (flat rows)
unfolding flat
before_all rows zero = omega arith
before_all [] (suc k) = omega arith
before_all (r ∷ rows) (suc k) = omega (arith, before_cons r rows k, length-append r (flat rows), before_all rows k)

-- a part that lies behind the front of a list
part_behind : (xs ys : List Placed) (f t : ℕ) → slice (length xs + f) (length xs + t) (xs ++ ys) ≡ slice f t ys
part_behind xs ys f t = ap (drop (length xs + f)) (take-append-add xs ys t) ∙ drop-append-add xs (take t ys) f

module _ (way : Way) (ws : List ℕ) (width : ℕ) where
  pub row_none : place_row way ws width [] ≡ []
  unfolding place_row place_side place_down
  row_none = go way
    where
      go : (way : Way) → place_row way ws width [] ≡ []
      go Sideways = refl
      go Down = refl

  row_part : (rows : List (List Box)) (k : ℕ) →
      slice (before rows k) (before rows (suc k)) (place_rows way ws width rows) ≡ place_row way ws width (get_or rows k [])
  unfolding flat place_rows
  row_part [] zero = sym row_none
  row_part [] (suc k) = sym row_none
  row_part (r ∷ rows) zero =
      take_at (place_row way ws width r) (place_rows way ws width rows) (before (r ∷ rows) 1)
      (length_row way ws width r ∙ (omega (arith, before_cons r rows 0)))
  row_part (r ∷ rows) (suc k) =
      ap₂ (λ (f t : ℕ). slice f t (front ++ place_rows way ws width rows)) (from k) (from (suc k))
      ∙ part_behind front (place_rows way ws width rows) (before rows k) (before rows (suc k))
      ∙ row_part rows k
    where
      front : List Placed
      front = place_row way ws width r

      from : (k : ℕ) → before (r ∷ rows) (suc k) ≡ length front + before rows k
      from k = omega (arith, before_cons r rows k, length_row way ws width r)

  -- the same of slices in whose front all rows were written
  pub row_written : (rows : List (List Box)) (n : ℕ) (xs wides : List ℕ) → length (flat rows) ≡ n → Written (place_rows way ws width rows) (take n xs) (take n wides) →
      (k : ℕ) → slice (before rows k) (before rows (suc k)) (placed xs wides) ≡ place_row way ws width (get_or rows k [])
  row_written rows n xs wides e w k =
      ap (drop (before rows k))
      (sym (take-take (before rows (suc k)) n (placed xs wides) (omega (arith, before_all rows (suc k))))
      ∙ ap (take (before rows (suc k))) (placed_take n xs wides ∙ placed_written _ (take n xs) (take n wides) w))
      ∙ row_part rows k
