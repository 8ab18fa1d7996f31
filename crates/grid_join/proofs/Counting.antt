-- How many entries two grids joined have: those of both, one for each short left row, and one for each row that a grid with columns lacks. By induction
-- on the rows.
use mathlib.Core.Path.{◌≡◌, refl, sym, ap, ◌∙◌}
use mathlib.Core.Bool.{Bool, true, false, cond}
use mathlib.Core.List.{List, [], ◌∷◌, ◌++◌, map}
use Prim.Native.Nat.{ℕ, suc, ◌+◌, ◌-◌, ◌≤◌, ◌<◌}
use native.Mathlib.Omega.{arith}
use native.Mathlib.Decide.{dec_lt}
use lib.Dec.{ltb}
use lib.ListN.{length, length-append, length-map}
use borrow.Author.Tests.{lt-ltb, le-ltb}
use Rattle.grid.specs.Grid.{Entry, entry, GridRow, entries_of}
use Rattle.grid_join.specs.Joined.{empty_entries, moved, end_from, filled, joined}
use Rattle.grid_join.specs.inner.Parts.{shorts, empties}

-- a number that counts only if a test holds
abbrev less : Bool → ℕ → ℕ → ℕ
less b n m = cond b (n - m) 0

less_suc : (b : Bool) (n m : ℕ) → less b (suc n) (suc m) ≡ less b n m
less_suc true n m = omega arith
less_suc false n m = refl

less_zero : (b : Bool) (m : ℕ) → less b 0 m ≡ 0
less_zero true m = omega arith
less_zero false m = refl

less_more : (b : Bool) (n : ℕ) → less b (suc n) 0 ≡ cond b 1 0 + less b n 0
less_more true n = omega arith
less_more false n = omega arith

pub less_le : (b : Bool) (n m : ℕ) → less b n m ≤ n
less_le true n m = omega arith
less_le false n m = omega arith

pub empty_count : (p q : ℕ) → length (empty_entries p q) ≡ cond (ltb p q) 1 0
empty_count p q = go (ltb p q) (entry 0 true p (q - p))
  where
    go : (b : Bool) (x : Entry) → length (cond b (x ∷ []) []) ≡ cond b 1 0
    go true x = refl
    go false x = refl

one_at_most : (b : Bool) → cond b 1 0 ≤ 1
one_at_most true = omega arith
one_at_most false = omega arith

moved_test : (c d : ℕ) → ltb c (c + d) ≡ ltb 0 d
moved_test c d = go (dec_lt 0 d)
  where
    go : Dec (0 < d) → ltb c (c + d) ≡ ltb 0 d
    go (yes h) = lt-ltb c (c + d) (omega arith) ∙ sym (lt-ltb 0 d h)
    go (no h) = le-ltb c (c + d) (omega arith) ∙ sym (le-ltb 0 d (omega arith))

module _ (c d : ℕ) where
  pub right_empty : length (empty_entries c (c + d)) ≡ cond (ltb 0 d) 1 0
  right_empty = empty_count c (c + d) ∙ ap (λ (b : Bool). cond b 1 0) (moved_test c d)

  -- a row in two parts, and the rows after it
  parts : (xs ys zs : List Entry) → length ((xs ++ ys) ++ zs) ≡ length xs + length ys + length zs
  parts xs ys zs = omega (arith, length-append (xs ++ ys) zs, length-append xs ys)

  pub joined_entries : (ls rs : List GridRow) → length (entries_of (joined c d ls rs)) ≡ length (entries_of ls) + length (entries_of rs) + empties c d ls rs
  unfolding joined entries_of shorts
  joined_entries [] [] = omega (arith, less_zero (ltb 0 c) 0, less_zero (ltb 0 d) 0)
  joined_entries [] (r ∷ rs) =
      omega (
        arith,
        parts (empty_entries 0 c) (map (moved c) r.entries) (entries_of (joined c d [] rs)),
        length-map r.entries (moved c),
        length-append r.entries (entries_of rs),
        joined_entries [] rs,
        empty_count 0 c,
        less_more (ltb 0 c) (length rs),
        less_zero (ltb 0 d) (length rs),
        less_zero (ltb 0 d) (suc (length rs)),
      )
  joined_entries (l ∷ ls) [] =
      omega (
        arith,
        parts (filled c l.entries) (empty_entries c (c + d)) (entries_of (joined c d ls [])),
        length-append l.entries (empty_entries (end_from 0 l.entries) c),
        length-append l.entries (entries_of ls),
        joined_entries ls [],
        right_empty,
        less_more (ltb 0 d) (length ls),
        less_zero (ltb 0 c) (length ls),
        less_zero (ltb 0 c) (suc (length ls)),
      )
  joined_entries (l ∷ ls) (r ∷ rs) =
      omega (
        arith,
        parts (filled c l.entries) (map (moved c) r.entries) (entries_of (joined c d ls rs)),
        length-append l.entries (empty_entries (end_from 0 l.entries) c),
        length-map r.entries (moved c),
        length-append l.entries (entries_of ls),
        length-append r.entries (entries_of rs),
        joined_entries ls rs,
        less_suc (ltb 0 c) (length rs) (length ls),
        less_suc (ltb 0 d) (length ls) (length rs),
      )

-- no more rows are short than there are
pub shorts_few : (c : ℕ) (g : List GridRow) → shorts c g ≤ length g
unfolding shorts
shorts_few c [] = omega arith
shorts_few c (l ∷ ls) = omega (arith, empty_count (end_from 0 l.entries) c, one_at_most (ltb (end_from 0 l.entries) c), shorts_few c ls)
