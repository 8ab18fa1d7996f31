-- Rows and all of them: the boxes of all rows are the boxes, and of all that is placed the part of a row is that row as it is placed.
use mathlib.Core.Path.{◌≡◌, refl, ap, ◌∙◌}
use mathlib.Core.List.{List, [], ◌∷◌, ◌++◌}
use Prim.Native.Nat.{ℕ, zero, suc, ◌+◌, ◌-◌, ◌<◌}
use native.Mathlib.Nat.{not-suc-le-zero, le_of_suc-le-suc}
use native.Mathlib.Omega.{arith}
use lib.ListN.{length, get_or, take, drop, length-append, length-drop, take-append-drop}
use lib.Seq.{take_at, drop-append-add}
use Rattle.columns.specs.Boxes.{Box, flat}
use Rattle.columns.specs.inner.Boxes.{rows_by}
use Rattle.answers.specs.declared.Way.{Way}
use Rattle.placement.specs.Place.{place_row, place_rows}
use Rattle.placement.specs.inner.Rows.{Ascends}
use Rattle.placement.proofs.Placing.{length_row}
use Rattle.placement.proofs.RowsLoop.{ascends_le}

-- taken apart into rows and put together again, a table's boxes are its boxes
pub flat_rows : (a n : ℕ) (ends : List ℕ) (bs : List Box) → a + length bs ≡ n → Ascends a ends n → flat (rows_by a ends bs) ≡ bs
unfolding flat rows_by Ascends
flat_rows a n [] [] e t = refl
flat_rows a n [] (b ∷ bs) e t = absurd (omega arith)
flat_rows a n (end ∷ ends) bs e t =
    ap (λ (rest : List Box). take (end - a) bs ++ rest)
    (flat_rows end n ends (drop (end - a) bs) (omega (arith, length-drop (end - a) bs, ascends_le end ends n t.1)) t.1)
    ∙ take-append-drop (end - a) bs

-- of all that is placed, the part of row i, after the entries of the rows before it, is that row as it is placed
pub placed_row : (way : Way) (ws : List ℕ) (width : ℕ) (rows : List (List Box)) (i : ℕ) → i < length rows →
    take (length (get_or rows i [])) (drop (length (flat (take i rows))) (place_rows way ws width rows)) ≡ place_row way ws width (get_or rows i [])
unfolding place_rows flat
placed_row way ws width [] i h = absurd (not-suc-le-zero h)
placed_row way ws width (r ∷ rows) zero h = take_at (place_row way ws width r) (place_rows way ws width rows) (length r) (length_row way ws width r)
placed_row way ws width (r ∷ rows) (suc i) h =
    let n : length (r ++ flat (take i rows)) ≡ length (place_row way ws width r) + length (flat (take i rows)) =
    omega (arith, length-append r (flat (take i rows)), length_row way ws width r) in
    rw (n, drop-append-add (place_row way ws width r) (place_rows way ws width rows) (length (flat (take i rows))))
    (placed_row way ws width rows i (le_of_suc-le-suc h))
