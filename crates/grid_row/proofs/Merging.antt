-- The row as a merge, an entry at a time, and what follows by induction on it: how many entries there are, where the row ends, what
-- holds of each entry, and that what hangs ascends by position.
use mathlib.Core.Path.{◌≡◌, refl, sym, ap, ◌∙◌}
use mathlib.Core.Bool.{Bool, true, false, cond}
use mathlib.Core.List.{List, [], ◌∷◌, ◌++◌}
use Prim.Native.Nat.{ℕ, suc, ◌+◌, ◌-◌, ◌≤◌, ◌<◌}
use native.Mathlib.Omega.{arith}
use lib.ListN.{length}
use lib.Dec.{leb, ltb}
use borrow.Author.Tests.{ltb-true, leb-true, leb-false}
use Rattle.common.specs.Lists.{sum, All}
use Rattle.common.proofs.All.{all_any, all_append}
use Rattle.grid_row.specs.Row.{Item, item, items_end, placed, row_from, hang_of, nexts}
use Rattle.grid_row.proofs.Steps.{end_append, row_hang, row_free, row_first}

-- the entries xs are those of the cells cs and the hanging ones hs, from position p on
pub data Merging : ℕ → List Item → List Item → List Item → Type 0 where
  after : {p : ℕ} {hs : List Item} → Merging p hs [] hs
  filler : {p : ℕ} {h : Item} {hs cs xs : List Item} → leb h.pos p ≡ true → Merging (p + h.span) hs cs xs → Merging p (h ∷ hs) cs (h ∷ xs)
  free : {p : ℕ} {c : Item} {cs xs : List Item} → Merging (p + c.span) [] cs xs → Merging p [] (c ∷ cs) (placed c p ∷ xs)
  before : {p : ℕ} {h : Item} {hs : List Item} {c : Item} {cs xs : List Item} → leb h.pos p ≡ false
      → Merging (p + c.span) (h ∷ hs) cs xs → Merging p (h ∷ hs) (c ∷ cs) (placed c p ∷ xs)

-- ---- they are the row, and no others are

merging_cell : (c : Item) (cs : List Item) → ((p : ℕ) (hs : List Item) → Merging p hs cs (row_from p hs cs))
    → (p : ℕ) (hs : List Item) → Merging p hs (c ∷ cs) (row_from p hs (c ∷ cs))
merging_cell c cs ih p [] = rw (row_free p c cs) (free (ih (p + c.span) []))
merging_cell c cs ih p (h ∷ hs) = go (merging_cell c cs ih (p + h.span) hs) (leb h.pos p) refl
  where
    go : Merging (p + h.span) hs (c ∷ cs) (row_from (p + h.span) hs (c ∷ cs)) → (b : Bool) → leb h.pos p ≡ b → Merging p (h ∷ hs) (c ∷ cs) (row_from p (h ∷ hs) (c ∷ cs))
    go m true e = rw (row_hang p h hs (c ∷ cs) e) (filler e m)
    go m false e = rw (row_first p h hs c cs e) (before e (ih (p + c.span) (h ∷ hs)))

pub merging : (p : ℕ) (hs cs : List Item) → Merging p hs cs (row_from p hs cs)
unfolding row_from
merging p hs [] = after
merging p hs (c ∷ cs) = merging_cell c cs (λ q gs. merging q gs cs) p hs

pub merging_row : {p : ℕ} {hs cs xs : List Item} → Merging p hs cs xs → xs ≡ row_from p hs cs
unfolding row_from
merging_row after = refl
merging_row (filler {p} {h} {hs} {cs} e m) = ap (λ (l : List Item). h ∷ l) (merging_row m) ∙ sym (row_hang p h hs cs e)
merging_row (free {p} {c} {cs} m) = ap (λ (l : List Item). placed c p ∷ l) (merging_row m) ∙ sym (row_free p c cs)
merging_row (before {p} {h} {hs} {c} {cs} e m) = ap (λ (l : List Item). placed c p ∷ l) (merging_row m) ∙ sym (row_first p h hs c cs e)

-- ---- how many entries

merging_length : {p : ℕ} {hs cs xs : List Item} → Merging p hs cs xs → length xs ≡ length cs + length hs
merging_length after = omega arith
merging_length (filler e m) = omega (arith, merging_length m)
merging_length (free m) = omega (arith, merging_length m)
merging_length (before e m) = omega (arith, merging_length m)

pub row_length : (p : ℕ) (hs cs : List Item) → length (row_from p hs cs) ≡ length cs + length hs
row_length p hs cs = merging_length (merging p hs cs)

-- ---- where the row ends: the order of the entries does not matter

merging_end : {p : ℕ} {hs cs xs : List Item} → Merging p hs cs xs → items_end xs ≡ items_end cs + items_end hs
unfolding sum
merging_end after = omega arith
merging_end (filler e m) = omega (arith, merging_end m)
merging_end (free m) = omega (arith, merging_end m)
merging_end (before e m) = omega (arith, merging_end m)

pub row_end : (p : ℕ) (hs cs : List Item) → items_end (row_from p hs cs) ≡ items_end cs + items_end hs
row_end p hs cs = merging_end (merging p hs cs)

-- ---- what holds of each entry

-- what holds of an item wherever it is placed is kept by the merge
module _ (P : Item → Type 0) (anywhere : (c : Item) (q : ℕ) → P c → P (placed c q)) where
  merging_each : {p : ℕ} {hs cs xs : List Item} → Merging p hs cs xs → All P hs → All P cs → All P xs
  unfolding All
  merging_each after a b = a
  merging_each (filler e m) a b = (a.0, merging_each m a.1 b)
  merging_each (free {p} {c} m) a b = (anywhere c p b.0, merging_each m a b.1)
  merging_each (before {p} {h} {hs} {c} e m) a b = (anywhere c p b.0, merging_each m a b.1)

  pub row_each : (p : ℕ) (hs cs : List Item) → All P hs → All P cs → All P (row_from p hs cs)
  row_each p hs cs a b = merging_each (merging p hs cs) a b

-- and what holds of an item that hangs on is kept by what hangs
module _ (P Q : Item → Type 0) (on : (x : Item) → 1 < x.left → P x → Q (item x.owner true (x.left - 1) x.pos x.span)) where
  hang_each : (x : Item) → P x → All Q (hang_of x)
  unfolding All hang_of
  hang_each x a = go (ltb 1 x.left) refl
    where
      go : (b : Bool) → ltb 1 x.left ≡ b → All Q (cond b (item x.owner true (x.left - 1) x.pos x.span ∷ []) [])
      go true e = (on x (ltb-true 1 x.left e) a, tt)
      go false e = tt

  pub nexts_each : (xs : List Item) → All P xs → All Q (nexts xs)
  unfolding All nexts
  nexts_each [] a = tt
  nexts_each (x ∷ xs) a = all_append Q (hang_of x) (nexts xs) (hang_each x a.0) (nexts_each xs a.1)

-- what hangs ends within the row
hang_end : (x : Item) → items_end (hang_of x) ≤ x.span
unfolding hang_of sum
hang_end x = go (ltb 1 x.left)
  where
    go : (b : Bool) → items_end (cond b (item x.owner true (x.left - 1) x.pos x.span ∷ []) []) ≤ x.span
    go true = omega arith
    go false = omega arith

pub nexts_end : (xs : List Item) → items_end (nexts xs) ≤ items_end xs
unfolding nexts sum
nexts_end [] = omega arith
nexts_end (x ∷ xs) = omega (arith, end_append (hang_of x) (nexts xs), hang_end x, nexts_end xs)

-- ---- every span is at least 1

abbrev pub Wide : Item → Type 0
Wide x = 1 ≤ x.span

pub row_wide : (p : ℕ) (hs cs : List Item) → All Wide hs → All Wide cs → All Wide (row_from p hs cs)
row_wide p hs cs a b = row_each Wide (λ c q w. w) p hs cs a b

pub nexts_wide : (xs : List Item) → All Wide xs → All Wide (nexts xs)
nexts_wide xs a = nexts_each Wide Wide (λ x m w. w) xs a

pub wide_length : (xs : List Item) → All Wide xs → length xs ≤ items_end xs
unfolding All sum
wide_length [] a = omega arith
wide_length (x ∷ xs) a = omega (arith, a.0, wide_length xs a.1)

-- ---- what hangs are fillers, which take at least one row more

abbrev pub Filler : Item → Type 0
Filler x = x.filler ≡ true

abbrev pub Hangs : Item → Type 0
Hangs x = 1 ≤ x.left

pub nexts_fillers : (xs : List Item) → All Filler (nexts xs)
nexts_fillers xs = nexts_each (λ x. Unit) Filler (λ x m u. refl) xs (all_any xs)

pub nexts_hang : (xs : List Item) → All Hangs (nexts xs)
nexts_hang xs = nexts_each (λ x. Unit) Hangs (λ x m u. omega arith) xs (all_any xs)

-- ---- positions ascend: each is at least m, and above the one before

abbrev pub Ascends : ℕ → List Item → Type 0
Ascends m [] = Unit
Ascends m (x ∷ xs) = (m ≤ x.pos) × Ascends (suc x.pos) xs

ascends_from : (m n : ℕ) (xs : List Item) → m ≤ n → Ascends n xs → Ascends m xs
ascends_from m n [] h a = tt
ascends_from m n (x ∷ xs) h a = (omega (arith, a.0), a.1)

merging_ascends : {p : ℕ} {hs cs xs : List Item} → Merging p hs cs xs → All Wide hs → All Wide cs → (m : ℕ) → m ≤ p → Ascends m hs → Ascends m xs
unfolding All
merging_ascends after v w m l a = a
merging_ascends (filler {p} {h} e g) v w m l a = (a.0, merging_ascends g v.1 w (suc h.pos) (omega (arith, leb-true h.pos p e, v.0)) a.1)
merging_ascends (free {p} {c} g) v w m l a = (l, merging_ascends g tt w.1 (suc p) (omega (arith, w.0)) tt)
merging_ascends (before {p} {h} {hs} {c} e g) v w m l a =
    (l, merging_ascends g v w.1 (suc p) (omega (arith, w.0)) (omega (arith, leb-false h.pos p e), a.1))

-- a row's positions ascend where those of what hangs into it do, and so do those of what hangs on
pub row_ascends : (hs cs : List Item) → All Wide hs → All Wide cs → Ascends 0 hs → Ascends 0 (row_from 0 hs cs)
row_ascends hs cs v w a = merging_ascends (merging 0 hs cs) v w 0 (omega arith) a

pub nexts_ascends : (m : ℕ) (xs : List Item) → Ascends m xs → Ascends m (nexts xs)
unfolding nexts hang_of
nexts_ascends m [] a = tt
nexts_ascends m (x ∷ xs) a = go (ltb 1 x.left) (nexts_ascends (suc x.pos) xs a.1)
  where
    go : (b : Bool) → Ascends (suc x.pos) (nexts xs) → Ascends m (cond b (item x.owner true (x.left - 1) x.pos x.span ∷ []) [] ++ nexts xs)
    go true r = (a.0, r)
    go false r = ascends_from m (suc x.pos) (nexts xs) (omega (arith, a.0)) r
