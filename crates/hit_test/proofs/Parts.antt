-- The placed entries of two slices: how many, and a part of them.
use mathlib.Core.Path.{◌≡◌, refl, sym, ap, ◌∙◌}
use mathlib.Core.List.{List, [], ◌∷◌, map}
use Prim.Native.Nat.{ℕ, zero, suc, ◌+◌, ◌-◌, ◌≤◌}
use native.Mathlib.Omega.{arith}
use lib.ListN.{length, take, drop}
use lib.Seq.{slice, take-nil, drop-nil}
use Rattle.std.proofs.lemmas.List.{drop-take}
use Rattle.std.specs.Iterator.Adapters.{zip_first, zip_second}
use Rattle.std.specs.Slice.Iter.{iter_rest}
use Rattle.std.specs.declared.ops.RangeFrom.{RangeFrom}
use Rattle.std.specs.declared.iter.Zip.{Zip}
use Rattle.std.specs.declared.slice.Iter.{Iter}
use Rattle.placement.specs.Place.{Placed, at}
use Rattle.placement.specs.inner.Rows.{Written}
use Rattle.hit_test.specs.Point.{placed}

pub placed_length : (xs wides : List ℕ) → length (placed xs wides) ≡ length xs
unfolding placed
placed_length [] wides = refl
placed_length (x ∷ xs) wides = ap suc (placed_length xs (drop 1 wides))

-- the slices that placing writes are the placed entries again
placed_map : (ps : List Placed) → placed (map (λ (p : Placed). p.x) ps) (map (λ (p : Placed). p.width) ps) ≡ ps
unfolding placed
placed_map [] = refl
placed_map (p ∷ ps) = ap (λ (l : List Placed). p ∷ l) (placed_map ps)

pub placed_written : (ps : List Placed) (xs wides : List ℕ) → Written ps xs wides → placed xs wides ≡ ps
placed_written ps xs wides w = rw (w.x, w.wide) (placed_map ps)

-- a part of the placed entries is placed from the parts of the slices
pub placed_take : (n : ℕ) (xs wides : List ℕ) → take n (placed xs wides) ≡ placed (take n xs) (take n wides)
unfolding placed
placed_take zero xs wides = refl
placed_take (suc n) [] wides = refl
placed_take (suc n) (x ∷ xs) [] = ap (λ (l : List Placed). at x 0 ∷ l) (placed_take n xs [] ∙ ap (placed (take n xs)) (take-nil n))
placed_take (suc n) (x ∷ xs) (w ∷ wides) = ap (λ (l : List Placed). at x w ∷ l) (placed_take n xs wides)

placed_drop : (n : ℕ) (xs wides : List ℕ) → drop n (placed xs wides) ≡ placed (drop n xs) (drop n wides)
unfolding placed
placed_drop zero xs wides = refl
placed_drop (suc n) [] wides = refl
placed_drop (suc n) (x ∷ xs) [] = placed_drop n xs [] ∙ ap (placed (drop n xs)) (drop-nil n)
placed_drop (suc n) (x ∷ xs) (w ∷ wides) = placed_drop n xs wides

pub placed_cut : (first end : ℕ) (xs wides : List ℕ) → first ≤ end
    → placed (take (end - first) (drop first xs)) (take (end - first) (drop first wides)) ≡ slice first end (placed xs wides)
placed_cut first end xs wides h =
    let e : first + (end - first) ≡ end = omega arith in
    let cut = rw e at (drop-take first (end - first) (placed xs wides)) in
    sym (placed_take (end - first) (drop first xs) (drop first wides)) ∙ ap (take (end - first)) (sym (placed_drop first xs wides)) ∙ sym cut

-- what the walk over a row, each entry with its place, has left of the two slices
abbrev pub Walk : Type 0
Walk = Zip (RangeFrom ℕ) (Zip (Iter ℕ) (Iter ℕ))

abbrev pub xs_left : Walk → List ℕ
xs_left s = iter_rest (zip_first (zip_second s))

abbrev pub wides_left : Walk → List ℕ
wides_left s = iter_rest (zip_second (zip_second s))
