-- Entries by their number in the whole table: entry k stands in a row, and the same number finds its box and its place. Each by induction on the rows.
use mathlib.Core.Path.{◌≡◌, refl, sym, ap, ◌∙◌}
use mathlib.Core.List.{List, [], ◌∷◌, ◌++◌}
use Prim.Native.Nat.{ℕ, suc, ◌+◌, ◌-◌, ◌≤◌, ◌<◌}
use native.Mathlib.Nat.{not-suc-le-zero}
use native.Mathlib.Decide.{dec_lt}
use native.Mathlib.Omega.{arith}
use lib.ListN.{length, get_or, length-append, get_or-append}
use lib.Seq.{get_or-append-add}
use Rattle.columns.specs.Boxes.{Box, flat}
use Rattle.columns.proofs.Listed.{none}
use Rattle.answers.specs.declared.Way.{Way}
use Rattle.placement.specs.Place.{at, place_row, place_rows}
use Rattle.placement.proofs.Placing.{length_row}

-- what stands after a list
past : {A : Type 0} (xs ys : List A) (k : ℕ) (d : A) (n : ℕ) → length xs ≡ n → n ≤ k → get_or (xs ++ ys) k d ≡ get_or ys (k - n) d
past xs ys k d n e h =
    let m : length xs + (k - n) ≡ k = omega arith in
    ap (λ (i : ℕ). get_or (xs ++ ys) i d) (sym m) ∙ get_or-append-add xs ys (k - n) d

-- entry k is entry j of row i
module _ (way : Way) (ws : List ℕ) (width : ℕ) where
  pub record Stands (rows : List (List Box)) (k : ℕ) : Type 0 where
    pub i : ℕ
    pub j : ℕ
    pub row : i < length rows
    pub entry : j < length (get_or rows i [])
    pub box : get_or (flat rows) k none ≡ get_or (get_or rows i []) j none
    pub place : get_or (place_rows way ws width rows) k (at 0 0) ≡ get_or (place_row way ws width (get_or rows i [])) j (at 0 0)

  pub stands : (rows : List (List Box)) (k : ℕ) → k < length (flat rows) → Stands rows k
  unfolding flat place_rows
  stands [] k h = absurd (not-suc-le-zero h)
  stands (r ∷ rows) k h = go (λ l. stands rows (k - length r) l) (dec_lt k (length r))
    where
      placed : length (place_row way ws width r) ≡ length r
      placed = length_row way ws width r

      go : (k - length r < length (flat rows) → Stands rows (k - length r)) → Dec (k < length r) → Stands (r ∷ rows) k
      go ih (yes l) =
          record {
            i = 0;
            j = k;
            row = omega arith;
            entry = l;
            box = get_or-append r (flat rows) none k l;
            place = get_or-append (place_row way ws width r) (place_rows way ws width rows) (at 0 0) k (omega (arith, placed));
          }
      go ih (no l) =
          let s = ih (omega (arith, length-append r (flat rows))) in
          record {
            i = suc s.i;
            j = s.j;
            row = omega (arith, s.row);
            entry = s.entry;
            box = past r (flat rows) k none (length r) refl (omega arith) ∙ s.box;
            place = past (place_row way ws width r) (place_rows way ws width rows) k (at 0 0) (length r) placed (omega arith) ∙ s.place;
          }
