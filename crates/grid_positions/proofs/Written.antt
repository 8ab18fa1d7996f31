-- The entries of a row that are no fillers are its cells, in order. By induction on the row.
use mathlib.Core.Path.{◌≡◌, refl, ap, ◌∙◌}
use mathlib.Core.Bool.{Bool, true, false, cond}
use mathlib.Core.List.{List, [], ◌∷◌, ◌++◌, map}
use Prim.Native.Nat.{ℕ}
use Rattle.common.specs.Lists.{All}
use Rattle.grid_row.specs.Row.{Item, placed, row_from}
use Rattle.grid_row.proofs.Merging.{Merging, after, filler, free, before, merging, Filler}

-- the entries that are no fillers
unfoldable pub written : List Item → List Item
written [] = []
written (x ∷ xs) = cond x.filler (written xs) (x ∷ written xs)

abbrev pub NoFiller : Item → Type 0
NoFiller x = x.filler ≡ false

-- an entry, its position taken off
abbrev pub unplaced : Item → Item
unplaced x = placed x 0

written_filler : (x : Item) (xs : List Item) → Filler x → written (x ∷ xs) ≡ written xs
unfolding written
written_filler x xs f = rw (f, written)

written_cell : (x : Item) (xs : List Item) → NoFiller x → written (x ∷ xs) ≡ x ∷ written xs
unfolding written
written_cell x xs f = rw (f, written)

pub written_none : (xs : List Item) → All Filler xs → written xs ≡ []
unfolding All written
written_none [] e = refl
written_none (x ∷ xs) e = written_filler x xs e.0 ∙ written_none xs e.1

pub written_append : (xs ys : List Item) → written (xs ++ ys) ≡ written xs ++ written ys
unfolding written
written_append [] ys = refl
written_append (x ∷ xs) ys = go x.filler refl (written_append xs ys)
  where
    go : (b : Bool) → x.filler ≡ b → written (xs ++ ys) ≡ written xs ++ written ys → written (x ∷ xs ++ ys) ≡ written (x ∷ xs) ++ written ys
    go true e r = rw (written_filler x (xs ++ ys) e, written_filler x xs e) r
    go false e r = rw (written_cell x (xs ++ ys) e, written_cell x xs e) (ap (λ (l : List Item). x ∷ l) r)

merging_cell : (p : ℕ) (c : Item) (cs xs : List Item) → NoFiller c → map unplaced (written xs) ≡ map unplaced cs
    → map unplaced (written (placed c p ∷ xs)) ≡ map unplaced (c ∷ cs)
merging_cell p c cs xs f r = ap (map unplaced) (written_cell (placed c p) xs f) ∙ ap (λ (l : List Item). unplaced c ∷ l) r

merging_written : {p : ℕ} {hs cs xs : List Item} → Merging p hs cs xs → All Filler hs → All NoFiller cs → map unplaced (written xs) ≡ map unplaced cs
unfolding All
merging_written (after {hs = hs}) e f = ap (map unplaced) (written_none hs e)
merging_written (filler {h = h} {xs = xs} d m) e f = ap (map unplaced) (written_filler h xs e.0) ∙ merging_written m e.1 f
merging_written (free {p} {c} {cs} {xs} m) e f = merging_cell p c cs xs f.0 (merging_written m e f.1)
merging_written (before {p} {h} {hs} {c} {cs} {xs} d m) e f = merging_cell p c cs xs f.0 (merging_written m e f.1)

pub row_written : (p : ℕ) (hs cs : List Item) → All Filler hs → All NoFiller cs → map unplaced (written (row_from p hs cs)) ≡ map unplaced cs
row_written p hs cs e f = merging_written (merging p hs cs) e f
