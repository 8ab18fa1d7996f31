-- The rows of two grids joined, by their numbers: how many there are, what a row holds, its line, and that one of them reaches the last column.
-- By induction on the rows.
use mathlib.Core.Path.{◌≡◌, refl, ap, ◌∙◌}
use mathlib.Core.List.{List, [], ◌∷◌, ◌++◌, map}
use Prim.Native.Nat.{ℕ, zero, suc, ◌+◌, ◌≤◌, ◌<◌, max}
use native.Mathlib.Nat.{add-zero, le_of_suc-le-suc, not-suc-le-zero}
use native.Mathlib.Omega.{arith}
use native.Mathlib.Decide.{dec_lt}
use lib.ListN.{length, get_or, drop}
use lib.Seq.{drop-nil}
use borrow.Author.Tests.{lt-ltb, le-ltb}
use Rattle.common.specs.Lists.{All}
use Rattle.common.proofs.All.{all_drop}
use Rattle.grid.specs.Grid.{Entry, GridRow}
use Rattle.grid_join.specs.Joined.{empty_entries, moved, end_from, row_with, joined}
use Rattle.grid_join.specs.Facts.{no_row, RowTiles, JoinedCount, left_part, right_part, line_of, JoinedRow, Reach, Reaches, JoinedReaches}
use Rattle.grid_join.proofs.Tiling.{end_within}

pub joined_count : JoinedCount
unfolding joined
joined_count c d [] [] = refl
joined_count c d [] (r ∷ rs) = omega (arith, joined_count c d [] rs)
joined_count c d (l ∷ ls) [] = omega (arith, joined_count c d ls [])
joined_count c d (l ∷ ls) (r ∷ rs) = omega (arith, joined_count c d ls rs)

-- the next row, and the rows after it
pub joined_next : (c d : ℕ) (ls rs : List GridRow) → 0 < max (length ls) (length rs)
    → joined c d ls rs ≡ row_with (line_of ls rs) (left_part c ls ++ right_part c d rs) ∷ joined c d (drop 1 ls) (drop 1 rs)
unfolding joined
joined_next c d [] [] h = absurd (omega arith)
joined_next c d [] (r ∷ rs) h = refl
joined_next c d (l ∷ ls) [] h = refl
joined_next c d (l ∷ ls) (r ∷ rs) h = refl

-- row i
pub joined_row : JoinedRow
unfolding joined
joined_row c d [] [] i h = absurd (omega arith)
joined_row c d [] (r ∷ rs) zero h = refl
joined_row c d (l ∷ ls) [] zero h = refl
joined_row c d (l ∷ ls) (r ∷ rs) zero h = refl
joined_row c d [] (r ∷ rs) (suc i) h = rw (drop-nil {A = GridRow} i) at (joined_row c d [] rs i (omega arith))
joined_row c d (l ∷ ls) [] (suc i) h = rw (drop-nil {A = GridRow} i) at (joined_row c d ls [] i (omega arith))
joined_row c d (l ∷ ls) (r ∷ rs) (suc i) h = joined_row c d ls rs i (omega arith)

-- ---- where rows end

end_then : (p : ℕ) (es ys : List Entry) → end_from p (es ++ ys) ≡ end_from (end_from p es) ys
unfolding end_from
end_then p [] ys = refl
end_then p (e ∷ es) ys = end_then (e.first + e.span) es ys

end_empty : (p q : ℕ) → p ≤ q → end_from p (empty_entries p q) ≡ q
unfolding end_from
end_empty p q h = go (dec_lt p q)
  where
    go : Dec (p < q) → end_from p (empty_entries p q) ≡ q
    go (yes l) = rw (lt-ltb p q l) (omega arith)
    go (no l) = rw (le-ltb p q (omega arith)) (omega arith)

end_moved : (c p : ℕ) (es : List Entry) → end_from (c + p) (map (moved c) es) ≡ c + end_from p es
unfolding end_from
end_moved c p [] = refl
end_moved c p (e ∷ es) =
    let a : c + e.first + e.span ≡ c + (e.first + e.span) = omega arith in
    ap (λ (k : ℕ). end_from k (map (moved c) es)) a ∙ end_moved c (e.first + e.span) es

module _ (c d : ℕ) where
  end_left : (ls : List GridRow) → All (RowTiles c) ls → end_from 0 (left_part c ls) ≡ c
  unfolding All
  end_left [] a = end_empty 0 c (omega arith)
  end_left (l ∷ ls) a = end_then 0 l.entries (empty_entries (end_from 0 l.entries) c) ∙ end_empty (end_from 0 l.entries) c (end_within c 0 l.entries a.0).1

  end_right : (rs : List GridRow) → (k : ℕ) → k < length rs → end_from c (right_part c d (drop k rs)) ≡ c + end_from 0 (get_or rs k no_row).entries
  end_right [] k h = absurd (not-suc-le-zero h)
  end_right (r ∷ rs) zero h = rw (add-zero c) at (end_moved c 0 r.entries)
  end_right (r ∷ rs) (suc k) h = end_right rs k (le_of_suc-le-suc h)

  end_right_bounds : (rs : List GridRow) → All (RowTiles d) rs → (c ≤ end_from c (right_part c d rs)) × (end_from c (right_part c d rs) ≤ c + d)
  unfolding All
  end_right_bounds [] b = let e = end_empty c (c + d) (omega arith) in (omega (arith, e), omega (arith, e))
  end_right_bounds (r ∷ rs) b =
      let e : end_from c (map (moved c) r.entries) ≡ c + end_from 0 r.entries = rw (add-zero c) at (end_moved c 0 r.entries) in
      let w = end_within d 0 r.entries b.0 in
      (omega (arith, e), omega (arith, e, w.1))

  module _ (ls rs : List GridRow) (a : All (RowTiles c) ls) (b : All (RowTiles d) rs) where
    -- where row k ends
    row_end : (k : ℕ) → k < max (length ls) (length rs) → end_from 0 (get_or (joined c d ls rs) k no_row).entries ≡ end_from c (right_part c d (drop k rs))
    row_end k h =
        ap (λ (r : GridRow). end_from 0 r.entries) (joined_row c d ls rs k h)
        ∙ end_then 0 (left_part c (drop k ls)) (right_part c d (drop k rs))
        ∙ ap (λ (p : ℕ). end_from p (right_part c d (drop k rs))) (end_left (drop k ls) (all_drop (RowTiles c) k ls a))

    -- the number of columns is the sum: no row ends past it, and if it is above 0 some row ends there
    some_reaches : Reaches c ls → Reaches d rs → Reaches (c + d) (joined c d ls rs)
    some_reaches f g h = go (dec_lt 0 d)
      where
        go : Dec (0 < d) → Reach (c + d) (joined c d ls rs)
        go (yes p) =
            let r = g p in
            let t : r.row < max (length ls) (length rs) = omega (arith, r.there) in
            record {
              row = r.row;
              there = omega (arith, joined_count c d ls rs);
              ends = row_end r.row t ∙ end_right rs r.row r.there ∙ ap (λ (k : ℕ). c + k) r.ends;
            }
        go (no p) =
            let r = f (omega arith) in
            let t : r.row < max (length ls) (length rs) = omega (arith, r.there) in
            let w = end_right_bounds (drop r.row rs) (all_drop (RowTiles d) r.row rs b) in
            record {
              row = r.row;
              there = omega (arith, joined_count c d ls rs);
              ends = row_end r.row t ∙ omega (arith, w.0, w.1);
            }

pub joined_reaches : JoinedReaches
joined_reaches c d ls rs a b f g = some_reaches c d ls rs a b f g
