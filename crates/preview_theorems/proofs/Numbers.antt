-- What the numbers are that `at` and `within` answer. Each by induction on the rows.
use mathlib.Core.Path.{◌≡◌, sym, ap, ◌∙◌}
use mathlib.Core.List.{List, [], ◌∷◌, ◌++◌}
use Prim.Native.Nat.{ℕ, zero, suc, ◌+◌, ◌<◌}
use native.Mathlib.Nat.{not-suc-le-zero}
use native.Mathlib.Omega.{arith}
use lib.ListN.{length, get_or, take, length-append, get_or-append}
use lib.Seq.{get_or-append-add}
use Rattle.columns.specs.Boxes.{Box, flat}
use Rattle.grid.specs.Grid.{Entry, GridRow, entries_of}
use Rattle.grid.specs.Owners.{row_at}
use Rattle.answers.specs.declared.Way.{Way}
use Rattle.placement.specs.Place.{at, place_row, place_rows}
use Rattle.placement.proofs.Placing.{length_row}
use Rattle.sheet_figures.specs.Figures.{rows_at, boxes_at, way_at, widths_at}
use Rattle.row_lookup.specs.Rows.{start_in}
use Rattle.row_lookup.proofs.RowStarts.{start_boxes}
use Rattle.preview_theorems.specs.Numbers.{NumbersInGrid, NumbersInLayout}

-- what stands at a place within a list, whatever follows it
front : {A : Type 0} (xs ys : List A) (k n : ℕ) (d : A) → k ≡ n → n < length xs → get_or (xs ++ ys) k d ≡ get_or xs n d
front xs ys k n d e h = ap (λ (i : ℕ). get_or (xs ++ ys) i d) e ∙ get_or-append xs ys d n h

-- n more than a list has, in what stands after it
past : {A : Type 0} (xs ys : List A) (k n : ℕ) (d : A) → k ≡ length xs + n → get_or (xs ++ ys) k d ≡ get_or ys n d
past xs ys k n d e = ap (λ (i : ℕ). get_or (xs ++ ys) i d) e ∙ get_or-append-add xs ys n d

in_grid : (g : List GridRow) (row j : ℕ) (none : Entry) → j < length (row_at g row).entries →
    get_or (entries_of g) (start_in g row + j) none ≡ get_or (row_at g row).entries j none
unfolding entries_of
in_grid [] row j none h = absurd (not-suc-le-zero h)
in_grid (r ∷ g) zero j none h = front r.entries (entries_of g) (0 + j) j none (omega arith) h
in_grid (r ∷ g) (suc row) j none h =
    past r.entries (entries_of g) (start_in (r ∷ g) (suc row) + j) (start_in g row + j) none (omega (arith, length-append r.entries (entries_of (take row g))))
    ∙ in_grid g row j none h

in_places : (way : Way) (ws : List ℕ) (width : ℕ) (rs : List (List Box)) (row j : ℕ) → j < length (place_row way ws width (get_or rs row [])) →
    get_or (place_rows way ws width rs) (length (flat (take row rs)) + j) (at 0 0) ≡ get_or (place_row way ws width (get_or rs row [])) j (at 0 0)
unfolding flat place_rows
in_places way ws width [] row j h = let n : length (place_row way ws width []) ≡ 0 = length_row way ws width [] in absurd (omega arith)
in_places way ws width (r ∷ rs) zero j h = front (place_row way ws width r) (place_rows way ws width rs) (0 + j) j (at 0 0) (omega arith) h
in_places way ws width (r ∷ rs) (suc row) j h =
    past (place_row way ws width r) (place_rows way ws width rs) (length (flat (take (suc row) (r ∷ rs))) + j) (length (flat (take row rs)) + j) (at 0 0)
    (omega (arith, length-append r (flat (take row rs)), length_row way ws width r))
    ∙ in_places way ws width rs row j h

pub numbers_in_grid : NumbersInGrid
numbers_in_grid s line row j none h = in_grid (rows_at s line) row j none h

pub numbers_in_layout : NumbersInLayout
numbers_in_layout s line wrap raw width row j h =
    ap (λ (i : ℕ). get_or (place_rows (way_at s line wrap raw width) (widths_at s line wrap raw width) width (boxes_at s line wrap)) (i + j) (at 0 0))
    (sym (start_boxes _ (rows_at s line) row))
    ∙ in_places (way_at s line wrap raw width) (widths_at s line wrap raw width) width (boxes_at s line wrap) row j h
