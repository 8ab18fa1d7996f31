-- The figures of a grid's rows as records.
use mathlib.Core.Path.{◌≡◌, refl, sym, ap, ◌∙◌}
use mathlib.Core.List.{List, [], ◌∷◌, map}
use Prim.Native.Nat.{ℕ, ◌+◌, ◌≤◌, ◌<◌}
use native.Mathlib.Omega.{arith}
use lib.ListN.{length, get_or, take, length-map, get_or-map}
use lib.Seq.{get_or-take, length-take-le, ext_get_or}
use Rattle.records.specs.inner.NodeRecord.{no_row}
use Rattle.records.specs.declared.RowEnd.{RowEnd}
use Rattle.grid.specs.Grid.{GridRow, row_ends}
use Rattle.grid.specs.inner.Placing.{grid_line}
use Rattle.grid_build.specs.inner.Records.{row, ended_rows}
use Rattle.records.specs.inner.Figures.{row_line, row_end, row_lines_of, row_ends_of}

-- a figure of a list that stands in the front of a slice
stands_at : (n : ℕ) (b xs : List ℕ) → take n b ≡ xs → (k : ℕ) → k < n → get_or b k 0 ≡ get_or xs k 0
stands_at n b xs e k h = sym (get_or-take n b k 0 h) ∙ ap (λ (l : List ℕ). get_or l k 0) e

front_is : {A : Type 0} (d : A) (xs ys : List A) → length ys ≤ length xs → ((k : ℕ) → k < length ys → get_or xs k d ≡ get_or ys k d) → take (length ys) xs ≡ ys
front_is d xs ys h e =
    ext_get_or d (take (length ys) xs) ys (length-take-le (length ys) xs h)
    (λ k l. let b : k < length ys = omega (arith, length-take-le (length ys) xs h) in get_or-take (length ys) xs k d b ∙ e k b)

pub ended_lines : (n : ℕ) (g : List GridRow) → map row_line (ended_rows n g) ≡ map grid_line g
unfolding ended_rows
ended_lines n [] = refl
ended_lines n (r ∷ rs) = ap (λ (l : List ℕ). r.line ∷ l) (ended_lines (n + length r.entries) rs)

pub ended_ends : (n : ℕ) (g : List GridRow) → map row_end (ended_rows n g) ≡ row_ends n g
unfolding ended_rows row_ends
ended_ends n [] = refl
ended_ends n (r ∷ rs) = ap (λ (l : List ℕ). (n + length r.entries) ∷ l) (ended_ends (n + length r.entries) rs)

pub ended_length : (g : List GridRow) → length (ended_rows 0 g) ≡ length g
ended_length g = sym (length-map (ended_rows 0 g) row_line) ∙ ap length (ended_lines 0 g) ∙ length-map g grid_line

pub rows_are : (g : List GridRow) (rows : List RowEnd) → take (length g) (row_lines_of rows) ≡ map grid_line g → take (length g) (row_ends_of rows) ≡ row_ends 0 g
    → length g ≤ length rows → take (length g) rows ≡ ended_rows 0 g
rows_are g rows a b h =
    let n = ended_length g in
    let gs = ended_rows 0 g in
    ap (λ (k : ℕ). take k rows) (sym n)
    ∙ front_is no_row rows gs (omega arith)
    (λ k l.
    let i : k < length g = omega arith in
    (λ j. row ((sym (get_or-map row_line rows k no_row) ∙ stands_at (length g) (row_lines_of rows) (map row_line gs) (a ∙ sym (ended_lines 0 g)) k i ∙ get_or-map row_line gs k no_row) j)
    ((sym (get_or-map row_end rows k no_row) ∙ stands_at (length g) (row_ends_of rows) (map row_end gs) (b ∙ sym (ended_ends 0 g)) k i ∙ get_or-map row_end gs k no_row) j)))
