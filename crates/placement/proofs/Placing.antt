-- Sideways an entry is placed by one figure, the sum of its columns: how wide it is and where the next one starts. Down each is as wide as the
-- page.
use mathlib.Core.Bool.{Bool, true, false, cond}
use mathlib.Core.Path.{◌≡◌, refl, ap, ◌∙◌}
use mathlib.Core.List.{List, [], ◌∷◌, map}
use Prim.Native.Nat.{ℕ, zero, suc, ◌+◌, ◌-◌, ◌≤◌, ◌<◌}
use native.Mathlib.Nat.{not-suc-le-zero, le_of_suc-le-suc}
use native.Mathlib.Omega.{arith}
use lib.Dec.{eqb}
use lib.ListN.{length, get_or, replicate, length-map}
use borrow.Author.Tests.{eqb-true, ne_eqb}
use Rattle.columns.specs.Boxes.{Box}
use Rattle.columns.proofs.Listed.{none}
use Rattle.answers.specs.declared.Way.{Way}
use Rattle.answers.specs.declared.Way.TheVariants.{Sideways, Down}
use Rattle.placement.specs.Place.{Placed, at, across, place_side, place_down, place_row}
use Rattle.placement.specs.inner.Rows.{own, next}

unfoldable pub place_by : (Box → ℕ) → ℕ → List Box → List Placed
place_by f x [] = []
place_by f x (b ∷ bs) = at x (own (f b) b.span) ∷ place_by f (next x (f b) b.span) bs

pub length_by : (f : Box → ℕ) (x : ℕ) (bs : List Box) → length (place_by f x bs) ≡ length bs
unfolding place_by
length_by f x [] = refl
length_by f x (b ∷ bs) = ap suc (length_by f (next x (f b) b.span) bs)

-- the two cases of an entry, before ps as it goes on from where the next one starts
step : (t : Bool) (x q s : ℕ) (ps : ℕ → List Placed) → cond t (at x 0 ∷ ps x) (at x (q + s - 1) ∷ ps (x + (q + s)))
    ≡ at x (cond t 0 (q + s - 1)) ∷ ps (cond t x (x + (q + s)))
step true x q s ps = refl
step false x q s ps = refl

pub side_by : (ws : List ℕ) (x : ℕ) (bs : List Box) → place_side ws x bs ≡ place_by (across ws) x bs
unfolding place_side place_by
side_by ws x [] = refl
side_by ws x (b ∷ bs) =
    let q = across ws b in
    step (eqb q 0) x q b.span (λ y. place_side ws y bs)
    ∙ ap (λ (ps : List Placed). at x (own q b.span) ∷ ps) (side_by ws (next x q b.span) bs)

-- down, the k-th entry, and one of the two figures of all
pub down_at : (width : ℕ) (bs : List Box) (k : ℕ) → k < length bs → get_or (place_down width bs) k (at 0 0) ≡ at 0 width
unfolding place_down
down_at width [] k h = absurd (not-suc-le-zero h)
down_at width (b ∷ bs) zero h = refl
down_at width (b ∷ bs) (suc k) h = down_at width bs k (le_of_suc-le-suc h)

pub down_figures : (g : Placed → ℕ) (width : ℕ) (bs : List Box) → map g (place_down width bs) ≡ replicate (length bs) (g (at 0 width))
unfolding place_down
down_figures g width [] = refl
down_figures g width (b ∷ bs) = rw (down_figures g width bs)

pub length_row : (way : Way) (ws : List ℕ) (width : ℕ) (r : List Box) → length (place_row way ws width r) ≡ length r
unfolding place_row place_down
length_row Sideways ws width r = ap length (side_by ws 0 r) ∙ length_by (across ws) 0 r
length_row Down ws width r = length-map r (λ b. at 0 width)

-- an entry is missing exactly if its figure is 0
pub own_missing : (q s : ℕ) → q ≡ 0 → own q s ≡ 0
own_missing q s e = rw e

pub missing_own : (q s : ℕ) → 1 ≤ s → own q s ≡ 0 → q ≡ 0
missing_own q s h = go (eqb q 0) refl
  where
    go : (t : Bool) → eqb q 0 ≡ t → cond t 0 (q + s - 1) ≡ 0 → q ≡ 0
    go true e z = eqb-true q 0 e
    go false e z = omega arith

pub own_some : (q s : ℕ) → 1 ≤ s → 1 ≤ q → 1 ≤ own q s
own_some q s h l = rw (ne_eqb q 0 (λ z. omega arith)) (omega arith)

-- how wide the k-th entry is, wherever the row starts
pub width_at : (f : Box → ℕ) (x : ℕ) (bs : List Box) (k : ℕ) → k < length bs →
    (get_or (place_by f x bs) k (at 0 0)).width ≡ own (f (get_or bs k none)) (get_or bs k none).span
unfolding place_by
width_at f x [] k h = absurd (not-suc-le-zero h)
width_at f x (b ∷ bs) zero h = refl
width_at f x (b ∷ bs) (suc k) h = width_at f (next x (f b) b.span) bs k (le_of_suc-le-suc h)
