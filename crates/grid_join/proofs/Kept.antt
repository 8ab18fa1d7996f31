-- Every entry of the left grid and every entry of the right one stands in the joined grid once, in the order in which it stood, the right ones moved;
-- every other entry is an empty one. By induction on the rows and on their entries.
use mathlib.Core.Path.{◌≡◌, refl, sym, ap, ap₂, ◌∙◌}
use mathlib.Core.Bool.{Bool, true, false, cond}
use mathlib.Core.List.{List, [], ◌∷◌, ◌++◌, map, append-nil, map-append}
use Prim.{tt}
use Prim.Native.Nat.{ℕ, ◌+◌, ◌-◌, ◌≤◌, ◌<◌}
use native.Mathlib.Omega.{arith}
use native.Mathlib.Decide.{dec_lt}
use borrow.Author.Tests.{lt-ltb, le-ltb, le-leb, lt-leb}
use Rattle.common.specs.Lists.{All}
use Rattle.common.proofs.All.{all_both, all_map}
use Rattle.common.proofs.Tiles.{tiles_within}
use Rattle.grid.specs.Grid.{Entry, entry, first_of, span_of, entries_of}
use Rattle.grid.specs.Facts.{EntriesTile}
use Rattle.grid_join.specs.Joined.{empty_entries, moved, end_from, filled, joined}
use Rattle.grid_join.specs.Facts.{Owned, is_empty, in_left, in_right, only, LeftKept, RightKept}

-- ---- those that pass a test

module _ (f : Entry → Bool) where
  only_append : (xs ys : List Entry) → only f (xs ++ ys) ≡ only f xs ++ only f ys
  unfolding only
  only_append [] ys = refl
  only_append (x ∷ xs) ys = go (only_append xs ys) (f x)
    where
      go : only f (xs ++ ys) ≡ only f xs ++ only f ys → (b : Bool) →
          cond b (x ∷ only f (xs ++ ys)) (only f (xs ++ ys)) ≡ cond b (x ∷ only f xs) (only f xs) ++ only f ys
      go e true = rw e
      go e false = e

  only_all : (xs : List Entry) → All (λ x. f x ≡ true) xs → only f xs ≡ xs
  unfolding only All
  only_all [] a = refl
  only_all (x ∷ xs) a = rw (a.0, only_all xs a.1)

  only_none : (xs : List Entry) → All (λ x. f x ≡ false) xs → only f xs ≡ []
  unfolding only All
  only_none [] a = refl
  only_none (x ∷ xs) a = rw (a.0, only_none xs a.1)

  -- an empty entry does not pass
  only_empty : ((e : Entry) → is_empty e ≡ true → f e ≡ false) → (p q : ℕ) → only f (empty_entries p q) ≡ []
  unfolding only
  only_empty n p q = go (dec_lt p q)
    where
      go : Dec (p < q) → only f (empty_entries p q) ≡ []
      go (yes l) = rw (lt-ltb p q l, n (entry 0 true p (q - p)) refl)
      go (no l) = rw (le-ltb p q (omega arith))

-- a test of a row in two parts, and of the rows after it
three : (f : Entry → Bool) (xs ys zs a b r : List Entry) → only f xs ≡ a → only f ys ≡ b → only f zs ≡ r → only f ((xs ++ ys) ++ zs) ≡ (a ++ b) ++ r
three f xs ys zs a b r p q s =
    only_append f (xs ++ ys) zs
    ∙ ap₂ (λ (u : List Entry) (v : List Entry). u ++ v) (only_append f xs ys ∙ ap₂ (λ (u : List Entry) (v : List Entry). u ++ v) p q) s

-- ---- left and right

module _ (c : ℕ) where
  empty_left : (e : Entry) → is_empty e ≡ true → in_left c e ≡ false
  empty_left e h = rw h

  empty_right : (e : Entry) → is_empty e ≡ true → in_right c e ≡ false
  empty_right e h = rw h

  left_in : (es : List Entry) → EntriesTile c 0 es → All Owned es → All (λ x. in_left c x ≡ true) es
  left_in es t o =
      all_both Owned (λ x. (1 ≤ span_of x) × (first_of x + span_of x ≤ c)) (λ x. in_left c x ≡ true)
      (λ x n w. rw (n, lt-ltb x.first c (omega arith))) es o (tiles_within first_of span_of c 0 es t)

  left_out : (es : List Entry) → EntriesTile c 0 es → All Owned es → All (λ x. in_right c x ≡ false) es
  left_out es t o =
      all_both Owned (λ x. (1 ≤ span_of x) × (first_of x + span_of x ≤ c)) (λ x. in_right c x ≡ false)
      (λ x n w. rw (n, lt-leb c x.first (omega arith))) es o (tiles_within first_of span_of c 0 es t)

  right_in : (es : List Entry) → All Owned es → All (λ x. in_right c x ≡ true) (map (moved c) es)
  right_in es o = all_map Owned (λ x. in_right c x ≡ true) (moved c) (λ x n. rw (n, le-leb c (c + x.first) (omega arith))) es o

  right_out : (es : List Entry) → All Owned es → All (λ x. in_left c x ≡ false) (map (moved c) es)
  right_out es o = all_map Owned (λ x. in_left c x ≡ false) (moved c) (λ x n. rw (n, le-ltb (c + x.first) c (omega arith))) es o

  -- the left entries of a row: those of the left row
  filled_left : (es : List Entry) → EntriesTile c 0 es → All Owned es → only (in_left c) (filled c es) ≡ es
  filled_left es t o =
      only_append (in_left c) es (empty_entries (end_from 0 es) c)
      ∙ ap₂ (λ (a : List Entry) (b : List Entry). a ++ b) (only_all (in_left c) es (left_in es t o)) (only_empty (in_left c) empty_left (end_from 0 es) c)
      ∙ append-nil es

  filled_right : (es : List Entry) → EntriesTile c 0 es → All Owned es → only (in_right c) (filled c es) ≡ []
  filled_right es t o =
      only_append (in_right c) es (empty_entries (end_from 0 es) c)
      ∙ ap₂ (λ (a : List Entry) (b : List Entry). a ++ b) (only_none (in_right c) es (left_out es t o)) (only_empty (in_right c) empty_right (end_from 0 es) c)

-- all left entries, in order
pub left_kept : LeftKept
unfolding All joined entries_of
left_kept c d [] [] a o w = only_none (in_left c) [] tt
left_kept c d [] (r ∷ rs) a o w =
    three (in_left c) (empty_entries 0 c) (map (moved c) r.entries) _ [] [] []
    (only_empty (in_left c) (empty_left c) 0 c) (only_none (in_left c) _ (right_out c r.entries w.0)) (left_kept c d [] rs a o w.1)
left_kept c d (l ∷ ls) [] a o w =
    three (in_left c) (filled c l.entries) (empty_entries c (c + d)) _ l.entries [] (entries_of ls)
    (filled_left c l.entries a.0 o.0) (only_empty (in_left c) (empty_left c) c (c + d)) (left_kept c d ls [] a.1 o.1 w)
    ∙ ap (λ (x : List Entry). x ++ entries_of ls) (append-nil l.entries)
left_kept c d (l ∷ ls) (r ∷ rs) a o w =
    three (in_left c) (filled c l.entries) (map (moved c) r.entries) _ l.entries [] (entries_of ls)
    (filled_left c l.entries a.0 o.0) (only_none (in_left c) _ (right_out c r.entries w.0)) (left_kept c d ls rs a.1 o.1 w.1)
    ∙ ap (λ (x : List Entry). x ++ entries_of ls) (append-nil l.entries)

-- all right entries, in order, moved
pub right_kept : RightKept
unfolding All joined entries_of
right_kept c d [] [] a o w = only_none (in_right c) [] tt
right_kept c d [] (r ∷ rs) a o w =
    three (in_right c) (empty_entries 0 c) (map (moved c) r.entries) _ [] (map (moved c) r.entries) (map (moved c) (entries_of rs))
    (only_empty (in_right c) (empty_right c) 0 c) (only_all (in_right c) _ (right_in c r.entries w.0)) (right_kept c d [] rs a o w.1)
    ∙ sym (map-append (moved c) r.entries (entries_of rs))
right_kept c d (l ∷ ls) [] a o w =
    three (in_right c) (filled c l.entries) (empty_entries c (c + d)) _ [] [] []
    (filled_right c l.entries a.0 o.0) (only_empty (in_right c) (empty_right c) c (c + d)) (right_kept c d ls [] a.1 o.1 w)
right_kept c d (l ∷ ls) (r ∷ rs) a o w =
    three (in_right c) (filled c l.entries) (map (moved c) r.entries) _ [] (map (moved c) r.entries) (map (moved c) (entries_of rs))
    (filled_right c l.entries a.0 o.0) (only_all (in_right c) _ (right_in c r.entries w.0)) (right_kept c d ls rs a.1 o.1 w.1)
    ∙ sym (map-append (moved c) r.entries (entries_of rs))
