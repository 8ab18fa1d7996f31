-- To placing only first columns and spans count, not sizes and least widths. Each by induction on the boxes or rows.
use mathlib.Core.Path.{◌≡◌, refl, sym, ap, ap₂, ◌∙◌}
use mathlib.Core.List.{List, [], ◌∷◌, map}
use Prim.Native.Nat.{ℕ, ◌-◌}
use native.Mathlib.Omega.{arith}
use Rattle.std.proofs.lemmas.List.{take-map, drop-map}
use lib.ListN.{drop}
use Rattle.common.proofs.Tiles.{tiles_map}
use Rattle.columns.specs.Boxes.{Box, box}
use Rattle.columns.specs.inner.Boxes.{box_first, box_span, rows_by, BoxesTile, Measures, TilesAll}
use Rattle.answers.specs.declared.Way.{Way}
use Rattle.answers.specs.declared.Way.TheVariants.{Sideways, Down}
use Rattle.placement.specs.Place.{across, place_down, place_row, place_rows}
use Rattle.placement.specs.inner.Rows.{next}
use Rattle.placement.proofs.Placing.{place_by, side_by}

-- a box without its figures
abbrev pub bare : Box → Box
bare b = box b.first b.span 0 0

pub rows_bare : (a : ℕ) (ends : List ℕ) (bs : List Box) → map (map bare) (rows_by a ends bs) ≡ rows_by a ends (map bare bs)
unfolding rows_by
rows_bare a [] bs = refl
rows_bare a (e ∷ ends) bs =
    ap₂ (λ (r : List Box) (rs : List (List Box)). r ∷ rs) (sym (take-map bare (e - a) bs))
    (rows_bare e ends (drop (e - a) bs) ∙ ap (rows_by e ends) (sym (drop-map bare (e - a) bs)))

by_bare : (f : Box → ℕ) (x : ℕ) (bs : List Box) → ((b : Box) → f (bare b) ≡ f b) → place_by f x (map bare bs) ≡ place_by f x bs
unfolding place_by
by_bare f x [] e = refl
by_bare f x (b ∷ bs) e = rw (e b, by_bare f (next x (f b) b.span) bs e)

down_bare : (width : ℕ) (bs : List Box) → place_down width (map bare bs) ≡ place_down width bs
unfolding place_down
down_bare width [] = refl
down_bare width (b ∷ bs) = rw (down_bare width bs)

pub row_bare : (way : Way) (ws : List ℕ) (width : ℕ) (r : List Box) → place_row way ws width (map bare r) ≡ place_row way ws width r
unfolding place_row
row_bare Sideways ws width r =
    side_by ws 0 (map bare r) ∙ by_bare (across ws) 0 r (λ b. refl) ∙ sym (side_by ws 0 r)
row_bare Down ws width r = down_bare width r

pub place_bare : (way : Way) (ws : List ℕ) (width : ℕ) (rows : List (List Box)) →
    place_rows way ws width (map (map bare) rows) ≡ place_rows way ws width rows
unfolding place_rows
place_bare way ws width [] = refl
place_bare way ws width (r ∷ rows) = rw (row_bare way ws width r, place_bare way ws width rows)

-- what is placed of boxes without figures is placed of them with any
pub place_rows_bare : (way : Way) (ws : List ℕ) (width : ℕ) (ends : List ℕ) (bs : List Box) →
    place_rows way ws width (rows_by 0 ends (map bare bs)) ≡ place_rows way ws width (rows_by 0 ends bs)
place_rows_bare way ws width ends bs =
    ap (place_rows way ws width) (sym (rows_bare 0 ends bs)) ∙ place_bare way ws width (rows_by 0 ends bs)

tiles_bare : (n p : ℕ) (bs : List Box) → BoxesTile n p bs → BoxesTile n p (map bare bs)
tiles_bare n p bs t = tiles_map box_first box_span bare n p bs t

measures_bare : (bs : List Box) → Measures (map bare bs)
unfolding Measures
measures_bare [] = tt
measures_bare (b ∷ bs) = (omega arith, measures_bare bs)

all_bare : (n : ℕ) (rows : List (List Box)) → TilesAll n rows → TilesAll n (map (map bare) rows)
unfolding TilesAll
all_bare n [] t = tt
all_bare n (r ∷ rows) t = (tiles_bare n 0 r t.0, measures_bare r, all_bare n rows t.2)

-- rows that tile with their figures tile without
pub tiles_rows_bare : (n : ℕ) (ends : List ℕ) (bs : List Box) → TilesAll n (rows_by 0 ends bs) → TilesAll n (rows_by 0 ends (map bare bs))
tiles_rows_bare n ends bs t = rw (rows_bare 0 ends bs) at (all_bare n (rows_by 0 ends bs) t)
