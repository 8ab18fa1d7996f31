-- The owner of an entry of two grids joined is that of what the entry is: an entry of the left grid or of the right one, an empty entry, or none.
-- By induction on the rows.
use mathlib.Core.Path.{◌≡◌, refl, sym, ap, ◌∙◌}
use mathlib.Core.Bool.{cond}
use mathlib.Core.List.{List, [], ◌∷◌, ◌++◌, map}
use Prim.Native.Nat.{ℕ, zero, suc, ◌+◌, ◌-◌, ◌≤◌, ◌<◌}
use native.Mathlib.Nat.{add-zero, zero-add}
use native.Mathlib.Omega.{arith}
use native.Mathlib.Decide.{dec_lt}
use lib.Dec.{ltb}
use lib.ListN.{length, drop, length-append, length-map}
use lib.Seq.{drop-drop, drop_at}
use borrow.Author.Tests.{lt-ltb, le-ltb, le-leb, lt-leb}
use Rattle.std.specs.Prelude.{Option, Some, None}
use Rattle.grid.specs.Grid.{Entry, GridRow, entries_of}
use Rattle.grid_join.specs.Joined.{empty_entries, moved, end_from, filled, joined}
use Rattle.grid_join.specs.Facts.{left_part, right_part}
use Rattle.grid_join.specs.inner.Reading.{reread}
use Rattle.grid_join.proofs.Putting.{one_empty, no_empty}
use Rattle.grid_join.proofs.Rereading.{reread_rows, filled_reread}
use Rattle.owners.specs.Owner.{filler_owner}
use Rattle.joined_owners.specs.declared.Place.{Place}
use Rattle.joined_owners.specs.declared.Place.TheVariants.{Left, Right, Empty, Past}
use Rattle.joined_owners.specs.inner.Places.{in_row, first_length, row_length, row_place, place}

-- ---- the owner of an entry of a list

owner_front : (xs ys : List Entry) (n : ℕ) → n < length xs → filler_owner (xs ++ ys) n ≡ filler_owner xs n
unfolding filler_owner
owner_front [] ys n h = absurd (omega arith)
owner_front (x ∷ xs) ys zero h = refl
owner_front (x ∷ xs) ys (suc n) h = owner_front xs ys n (omega arith)

owner_behind : (xs ys : List Entry) (n : ℕ) → length xs ≤ n → filler_owner (xs ++ ys) n ≡ filler_owner ys (n - length xs)
unfolding filler_owner
owner_behind [] ys n h = let e : n - 0 ≡ n = omega arith in rw e
owner_behind (x ∷ xs) ys zero h = absurd (omega arith)
owner_behind (x ∷ xs) ys (suc n) h =
    let e : suc n - suc (length xs) ≡ n - length xs = omega arith in
    rw e (owner_behind xs ys n (omega arith))

owner_moved : (c : ℕ) (es : List Entry) (n : ℕ) → filler_owner (map (moved c) es) n ≡ filler_owner es n
unfolding filler_owner
owner_moved c [] n = refl
owner_moved c (e ∷ es) zero = refl
owner_moved c (e ∷ es) (suc n) = owner_moved c es n

owner_drop : (a : ℕ) (es : List Entry) (n : ℕ) → filler_owner (drop a es) n ≡ filler_owner es (a + n)
unfolding filler_owner
owner_drop zero es n = rw (zero-add n)
owner_drop (suc a) [] n = refl
owner_drop (suc a) (e ∷ es) n = let k : suc a + n ≡ suc (a + n) = omega arith in rw k (owner_drop a es n)

-- an empty entry continues no cell
owner_empty : (p q n : ℕ) → n < length (empty_entries p q) → filler_owner (empty_entries p q) n ≡ Some 0
unfolding filler_owner
owner_empty p q n h = go (dec_lt p q)
  where
    go : Dec (p < q) → filler_owner (empty_entries p q) n ≡ Some 0
    go (yes l) = let z : n ≡ 0 = omega (arith, one_empty p q l, h) in rw (z, lt-ltb p q l)
    go (no l) = absurd (omega (arith, no_empty p q (omega arith), h))

-- ---- one row

-- the owner by what the entry is, of the entries of both grids
abbrev pub owner_at : List Entry → List Entry → Place → Option ℕ
owner_at ls rs (Left k) = filler_owner ls k
owner_at ls rs (Right k) = filler_owner rs k
owner_at ls rs Empty = Some 0
owner_at ls rs Past = None

-- what stands after the first of the entries
front_passed : (a : ℕ) (xs : List Entry) (es ys : List Entry) → drop a xs ≡ es ++ ys → drop (a + length es) xs ≡ ys
front_passed a xs es ys p = sym (drop-drop (length es) a xs) ∙ ap (drop (length es)) p ∙ drop_at es ys (length es) refl

-- an entry of the first row
front_owner : (a : ℕ) (xs : List Entry) (es ys : List Entry) → drop a xs ≡ es ++ ys → (e : ℕ) → e < length es → filler_owner es e ≡ filler_owner xs (a + e)
front_owner a xs es ys p e h = sym (owner_front es ys e h) ∙ ap (λ (l : List Entry). filler_owner l e) (sym p) ∙ owner_drop a xs e

module _ (c d a b : ℕ) (L R : List Entry) where
  left_owner : (ls : List GridRow) → drop a L ≡ entries_of ls → (e : ℕ) → e < length (left_part c ls)
      → filler_owner (left_part c ls) e ≡ owner_at L R (cond (ltb e (first_length ls)) (Left (a + e)) Empty)
  unfolding entries_of
  left_owner [] p e h = owner_empty 0 c e h ∙ rw (le-ltb e 0 (omega arith))
  left_owner (l ∷ ls) p e h = go (dec_lt e (length l.entries))
    where
      go : Dec (e < length l.entries) → filler_owner (filled c l.entries) e ≡ owner_at L R (cond (ltb e (length l.entries)) (Left (a + e)) Empty)
      go (yes k) =
          owner_front l.entries (empty_entries (end_from 0 l.entries) c) e k
          ∙ front_owner a L l.entries (entries_of ls) p e k
          ∙ rw (lt-ltb e (length l.entries) k)
      go (no k) =
          owner_behind l.entries (empty_entries (end_from 0 l.entries) c) e (omega arith)
          ∙ owner_empty (end_from 0 l.entries) c (e - length l.entries) (omega (arith, h, length-append l.entries (empty_entries (end_from 0 l.entries) c)))
          ∙ rw (le-ltb e (length l.entries) (omega arith))

  right_owner : (rs : List GridRow) → drop b R ≡ entries_of rs → (e : ℕ) → e < length (right_part c d rs)
      → filler_owner (right_part c d rs) e ≡ owner_at L R (cond (ltb e (first_length rs)) (Right (b + e)) Empty)
  unfolding entries_of
  right_owner [] p e h = owner_empty c (c + d) e h ∙ rw (le-ltb e 0 (omega arith))
  right_owner (r ∷ rs) p e h =
      let k : e < length r.entries = omega (arith, h, length-map r.entries (moved c)) in
      owner_moved c r.entries e ∙ front_owner b R r.entries (entries_of rs) p e k ∙ rw (lt-ltb e (length r.entries) k)

  -- the left part has all entries of the left row
  first_few : (ls : List GridRow) → first_length ls ≤ length (left_part c ls)
  first_few [] = omega arith
  first_few (l ∷ ls) = omega (arith, length-append l.entries (empty_entries (end_from 0 l.entries) c))

  module _ (ls rs : List GridRow) (p : drop a L ≡ entries_of ls) (q : drop b R ≡ entries_of rs) (e : ℕ) where
    abbrev k : ℕ
    k = length (left_part c ls)

    row_owner : e < row_length c d ls rs
        → filler_owner (left_part c ls ++ right_part c d rs) e ≡ owner_at L R (in_row a (first_length ls) k b (first_length rs) e)
    row_owner h = go (dec_lt e k)
      where
        go : Dec (e < k) → filler_owner (left_part c ls ++ right_part c d rs) e ≡ owner_at L R (in_row a (first_length ls) k b (first_length rs) e)
        go (yes l) = owner_front (left_part c ls) (right_part c d rs) e l ∙ left_owner ls p e l ∙ rw (lt-leb k e l)
        go (no l) =
            owner_behind (left_part c ls) (right_part c d rs) e (omega arith)
            ∙ right_owner rs q (e - k) (omega arith)
            ∙ rw (le-ltb e (first_length ls) (omega (arith, first_few ls)), le-leb k e (omega arith))

    -- the entry in the first row, or after it
    next_owner : (rest : List Entry) (after : Place) → filler_owner rest (e - row_length c d ls rs) ≡ owner_at L R after
        → filler_owner ((left_part c ls ++ right_part c d rs) ++ rest) e ≡ owner_at L R (row_place c d a b ls rs e after)
    next_owner rest after w = go (dec_lt e (row_length c d ls rs))
      where
        n : length (left_part c ls ++ right_part c d rs) ≡ row_length c d ls rs
        n = length-append (left_part c ls) (right_part c d rs)

        go : Dec (e < row_length c d ls rs) → filler_owner ((left_part c ls ++ right_part c d rs) ++ rest) e ≡ owner_at L R (row_place c d a b ls rs e after)
        go (yes h) =
            owner_front (left_part c ls ++ right_part c d rs) rest e (omega (arith, n))
            ∙ row_owner h
            ∙ rw (lt-ltb e (row_length c d ls rs) h)
        go (no h) =
            owner_behind (left_part c ls ++ right_part c d rs) rest e (omega (arith, n))
            ∙ ap (λ (m : ℕ). filler_owner rest (e - m)) n
            ∙ w
            ∙ rw (le-ltb e (row_length c d ls rs) (omega arith))

-- ---- all rows

module _ (c d : ℕ) (L R : List Entry) where
  none_passed : (a : ℕ) (xs : List Entry) → drop a xs ≡ entries_of [] → drop (a + 0) xs ≡ entries_of []
  none_passed a xs p = rw (add-zero a) p

  pub place_owner : (a b : ℕ) (ls rs : List GridRow) → drop a L ≡ entries_of ls → drop b R ≡ entries_of rs → (e : ℕ)
      → filler_owner (entries_of (joined c d ls rs)) e ≡ owner_at L R (place c d a b ls rs e)
  unfolding filler_owner entries_of joined place
  place_owner a b [] [] p q e = refl
  place_owner a b [] (r ∷ rs) p q e =
      next_owner c d a b L R [] (r ∷ rs) p q e (entries_of (joined c d [] rs)) _
      (place_owner (a + 0) (b + length r.entries) [] rs (none_passed a L p) (front_passed b R r.entries (entries_of rs) q)
      (e - row_length c d [] (r ∷ rs)))
  place_owner a b (l ∷ ls) [] p q e =
      next_owner c d a b L R (l ∷ ls) [] p q e (entries_of (joined c d ls [])) _
      (place_owner (a + length l.entries) (b + 0) ls [] (front_passed a L l.entries (entries_of ls) p) (none_passed b R q)
      (e - row_length c d (l ∷ ls) []))
  place_owner a b (l ∷ ls) (r ∷ rs) p q e =
      next_owner c d a b L R (l ∷ ls) (r ∷ rs) p q e (entries_of (joined c d ls rs)) _
      (place_owner (a + length l.entries) (b + length r.entries) ls rs (front_passed a L l.entries (entries_of ls) p)
      (front_passed b R r.entries (entries_of rs) q) (e - row_length c d (l ∷ ls) (r ∷ rs)))

-- ---- grids that are read back

module _ (c d : ℕ) where
  first_reread : (ls : List GridRow) → first_length (reread_rows ls) ≡ first_length ls
  first_reread [] = refl
  first_reread (l ∷ ls) = length-map l.entries reread

  left_reread : (ls : List GridRow) → length (left_part c (reread_rows ls)) ≡ length (left_part c ls)
  left_reread [] = refl
  left_reread (l ∷ ls) = ap length (filled_reread c l.entries) ∙ length-map (filled c l.entries) reread

  right_reread : (rs : List GridRow) → length (right_part c d (reread_rows rs)) ≡ length (right_part c d rs)
  right_reread [] = refl
  right_reread (r ∷ rs) = length-map (map reread r.entries) (moved c) ∙ length-map r.entries reread ∙ sym (length-map r.entries (moved c))

  next_reread : (a b : ℕ) (ls rs : List GridRow) (e : ℕ) (p q : Place) → p ≡ q → row_place c d a b (reread_rows ls) (reread_rows rs) e p ≡ row_place c d a b ls rs e q
  next_reread a b ls rs e p q w = rw (first_reread ls, first_reread rs, left_reread ls, right_reread rs, w)

  pub place_reread : (a b : ℕ) (ls rs : List GridRow) (e : ℕ) → place c d a b (reread_rows ls) (reread_rows rs) e ≡ place c d a b ls rs e
  unfolding place
  place_reread a b [] [] e = refl
  place_reread a b [] (r ∷ rs) e =
      next_reread a b [] (r ∷ rs) e _ _
      (rw (length-map r.entries reread, right_reread (r ∷ rs), place_reread (a + 0) (b + length r.entries) [] rs (e - row_length c d [] (r ∷ rs))))
  place_reread a b (l ∷ ls) [] e =
      next_reread a b (l ∷ ls) [] e _ _
      (rw (length-map l.entries reread, left_reread (l ∷ ls), place_reread (a + length l.entries) (b + 0) ls [] (e - row_length c d (l ∷ ls) [])))
  place_reread a b (l ∷ ls) (r ∷ rs) e =
      next_reread a b (l ∷ ls) (r ∷ rs) e _ _
      (rw (
        length-map l.entries reread,
        length-map r.entries reread,
        left_reread (l ∷ ls),
        right_reread (r ∷ rs),
        place_reread (a + length l.entries) (b + length r.entries) ls rs (e - row_length c d (l ∷ ls) (r ∷ rs)),
      ))
