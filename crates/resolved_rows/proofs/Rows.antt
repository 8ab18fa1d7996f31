-- Rows one after the other: their cells, where each row's cells end, a cell more in the last row, and what resolving leaves as it is.
use mathlib.Core.Path.{◌≡◌, refl, sym, ap, ap₂, ◌∙◌}
use mathlib.Core.List.{List, [], ◌∷◌, ◌++◌, map, map-append, map-map, append_assoc, append-nil}
use Prim.{tt}
use Prim.Native.Nat.{ℕ, zero, suc, ◌+◌, ◌-◌, ◌<◌, max}
use native.Mathlib.Nat.{not-suc-le-zero}
use native.Mathlib.Omega.{arith}
use lib.ListN.{length, take, drop, set, length-append, length-map}
use lib.Seq.{take_at, drop_at, drop-drop}
use Rattle.resolved_rows.specs.Cells.{Cell, Row, row, row_sum, widest, resolve_cell, resolve_row, fill_body, taken, cut_cell, cut_row, cut_body, resolve_body}
use Rattle.resolved_rows.specs.inner.Listed.{cell_line, cell_cols, cell_rows, written_line, all_cells, cell_ends}
use Rattle.resolved_rows.specs.inner.Spans.{bare, part, rows_at, last_end, Rising, cut_at}
use Rattle.resolved_rows.proofs.Sums.{sum_bare}

-- ---- all_cells, cell_ends

pub cells_append : (rs ss : List Row) → all_cells (rs ++ ss) ≡ all_cells rs ++ all_cells ss
unfolding all_cells
cells_append [] ss = refl
cells_append (r ∷ rs) ss = ap (λ (l : List Cell). r.cells ++ l) (cells_append rs ss) ∙ sym (append_assoc r.cells (all_cells rs) (all_cells ss))

ends_append : (n : ℕ) (rs ss : List Row) → cell_ends n (rs ++ ss) ≡ cell_ends n rs ++ cell_ends (n + length (all_cells rs)) ss
unfolding all_cells cell_ends
ends_append n [] ss = ap (λ (m : ℕ). cell_ends m ss) (omega arith)
ends_append n (r ∷ rs) ss =
    let m = n + length r.cells in
    let e : m + length (all_cells rs) ≡ n + length (r.cells ++ all_cells rs) = omega (arith, length-append r.cells (all_cells rs)) in
    ap (λ (l : List ℕ). m ∷ l) (ends_append m rs ss ∙ ap (λ (k : ℕ). cell_ends m rs ++ cell_ends k ss) e)

-- from the first row on
pub ends_after : (rs ss : List Row) → cell_ends 0 (rs ++ ss) ≡ cell_ends 0 rs ++ cell_ends (length (all_cells rs)) ss
ends_after rs ss = ends_append 0 rs ss ∙ ap (λ (n : ℕ). cell_ends 0 rs ++ cell_ends n ss) (omega arith)

pub length_ends : (n : ℕ) (rs : List Row) → length (cell_ends n rs) ≡ length rs
unfolding cell_ends
length_ends n [] = refl
length_ends n (r ∷ rs) = ap suc (length_ends (n + length r.cells) rs)

pub rising_ends : (n : ℕ) (rs : List Row) → Rising n (cell_ends n rs)
unfolding cell_ends
rising_ends n [] = tt
rising_ends n (r ∷ rs) = (omega arith, rising_ends (n + length r.cells) rs)

pub last_ends : (n : ℕ) (rs : List Row) → last_end n (cell_ends n rs) ≡ n + length (all_cells rs)
unfolding cell_ends last_end all_cells
last_ends n [] = omega arith
last_ends n (r ∷ rs) = omega (arith, last_ends (n + length r.cells) rs, length-append r.cells (all_cells rs))

-- ---- a cell more in the last row

abbrev pub extend : List Row → List Cell → List Row
extend [] cs = []
extend (r ∷ []) cs = row r.line (r.cells ++ cs) ∷ []
extend (r ∷ s ∷ rs) cs = r ∷ extend (s ∷ rs) cs

pub extend_none : (rs : List Row) → extend rs [] ≡ rs
extend_none [] = refl
extend_none (r ∷ []) = ap (λ (l : List Cell). row r.line l ∷ []) (append-nil r.cells)
extend_none (r ∷ s ∷ rs) = ap (λ (l : List Row). r ∷ l) (extend_none (s ∷ rs))

pub extend_extend : (rs : List Row) (a b : List Cell) → extend (extend rs a) b ≡ extend rs (a ++ b)
extend_extend [] a b = refl
extend_extend (r ∷ []) a b = ap (λ (l : List Cell). row r.line l ∷ []) (append_assoc r.cells a b)
extend_extend (r ∷ s ∷ []) a b = ap (λ (l : List Row). r ∷ l) (extend_extend (s ∷ []) a b)
extend_extend (r ∷ s ∷ t ∷ rs) a b = ap (λ (l : List Row). r ∷ l) (extend_extend (s ∷ t ∷ rs) a b)

extend_cons : (r : Row) (rs : List Row) (cs : List Cell) → 0 < length rs → extend (r ∷ rs) cs ≡ r ∷ extend rs cs
extend_cons r [] cs h = absurd (not-suc-le-zero h)
extend_cons r (s ∷ rs) cs h = refl

pub extend_append : (rs ss : List Row) (cs : List Cell) → 0 < length ss → extend (rs ++ ss) cs ≡ rs ++ extend ss cs
extend_append [] ss cs h = refl
extend_append (r ∷ rs) ss cs h =
    extend_cons r (rs ++ ss) cs (omega (arith, length-append rs ss))
    ∙ ap (λ (l : List Row). r ∷ l) (extend_append rs ss cs h)

pub length_extend : (rs : List Row) (cs : List Cell) → length (extend rs cs) ≡ length rs
length_extend [] cs = refl
length_extend (r ∷ []) cs = refl
length_extend (r ∷ s ∷ rs) cs = ap suc (length_extend (s ∷ rs) cs)

pub lines_extend : (rs : List Row) (cs : List Cell) → map written_line (extend rs cs) ≡ map written_line rs
lines_extend [] cs = refl
lines_extend (r ∷ []) cs = refl
lines_extend (r ∷ s ∷ rs) cs = ap (λ (l : List ℕ). r.line ∷ l) (lines_extend (s ∷ rs) cs)

pub cells_extend : (rs : List Row) (cs : List Cell) → 0 < length rs → all_cells (extend rs cs) ≡ all_cells rs ++ cs
unfolding all_cells
cells_extend [] cs h = absurd (not-suc-le-zero h)
cells_extend (r ∷ []) cs h = append_assoc r.cells cs [] ∙ ap (λ (l : List Cell). r.cells ++ l) (append-nil cs) ∙ ap (λ (l : List Cell). l ++ cs) (sym (append-nil r.cells))
cells_extend (r ∷ s ∷ rs) cs h = ap (λ (l : List Cell). r.cells ++ l) (cells_extend (s ∷ rs) cs (omega arith)) ∙ sym (append_assoc r.cells (all_cells (s ∷ rs)) cs)

pub ends_extend : (n k : ℕ) (rs : List Row) (c : Cell) → suc k ≡ length rs → cell_ends n (extend rs (c ∷ [])) ≡ set (cell_ends n rs) k (n + length (all_cells rs) + 1)
unfolding all_cells cell_ends
ends_extend n k [] c h = absurd (omega arith)
ends_extend n zero (r ∷ []) c h =
    let e : n + length (r.cells ++ (c ∷ [])) ≡ n + length (r.cells ++ []) + 1 = omega (arith, length-append r.cells (c ∷ []), ap length (append-nil r.cells)) in
    ap (λ (m : ℕ). m ∷ []) e
ends_extend n (suc k) (r ∷ []) c h = absurd (omega arith)
ends_extend n zero (r ∷ s ∷ rs) c h = absurd (omega arith)
ends_extend n (suc k) (r ∷ s ∷ rs) c h =
    let m = n + length r.cells in
    let e : m + length (all_cells (s ∷ rs)) + 1 ≡ n + length (r.cells ++ all_cells (s ∷ rs)) + 1 = omega (arith, length-append r.cells (all_cells (s ∷ rs))) in
    ap (λ (l : List ℕ). m ∷ l) (ends_extend m k (s ∷ rs) c (omega arith) ∙ ap (set (cell_ends m (s ∷ rs)) k) e)

-- ---- what resolving leaves as it is

pub kept_resolved : (f : Cell → ℕ) → ((x : ℕ) (c : Cell) → f (resolve_cell x c) ≡ f c) → (m : ℕ) (rs : List Row) → map f (all_cells (map (resolve_row m) rs)) ≡ map f (all_cells rs)
unfolding all_cells resolve_row
kept_resolved f h m [] = refl
kept_resolved f h m (r ∷ rs) =
    map-append f (map (resolve_cell (m - row_sum r.cells + 1)) r.cells) (all_cells (map (resolve_row m) rs))
    ∙ ap₂ (λ (x y : List ℕ). x ++ y) (same r.cells) (kept_resolved f h m rs)
    ∙ sym (map-append f r.cells (all_cells rs))
  where
    same : (cs : List Cell) → map f (map (resolve_cell (m - row_sum r.cells + 1)) cs) ≡ map f cs
    same [] = refl
    same (c ∷ cs) = ap₂ (λ (x : ℕ) (y : List ℕ). x ∷ y) (h (m - row_sum r.cells + 1) c) (same cs)

pub row_lines_resolved : (m : ℕ) (rs : List Row) → map written_line (map (resolve_row m) rs) ≡ map written_line rs
unfolding resolve_row
row_lines_resolved m [] = refl
row_lines_resolved m (r ∷ rs) = ap (λ (l : List ℕ). r.line ∷ l) (row_lines_resolved m rs)

pub ends_resolved : (m n : ℕ) (rs : List Row) → cell_ends n (map (resolve_row m) rs) ≡ cell_ends n rs
unfolding resolve_row cell_ends
ends_resolved m n [] = refl
ends_resolved m n (r ∷ rs) =
    ap (λ (k : ℕ). (n + k) ∷ cell_ends (n + k) (map (resolve_row m) rs)) (length-map r.cells (resolve_cell (m - row_sum r.cells + 1)))
    ∙ ap (λ (l : List ℕ). (n + length r.cells) ∷ l) (ends_resolved m (n + length r.cells) rs)

-- ---- what cutting leaves as it is, and so what resolving a body does

pub kept_cut : (f : Cell → ℕ) → ((x : ℕ) (c : Cell) → f (cut_cell x c) ≡ f c) → (rs : List Row) → map f (all_cells (cut_body rs)) ≡ map f (all_cells rs)
unfolding all_cells cut_body cut_row
kept_cut f h [] = refl
kept_cut f h (r ∷ rs) =
    map-append f (map (cut_cell (length rs)) r.cells) (all_cells (cut_body rs))
    ∙ ap₂ (λ (x y : List ℕ). x ++ y) (same r.cells) (kept_cut f h rs)
    ∙ sym (map-append f r.cells (all_cells rs))
  where
    same : (cs : List Cell) → map f (map (cut_cell (length rs)) cs) ≡ map f cs
    same [] = refl
    same (c ∷ cs) = ap₂ (λ (x : ℕ) (y : List ℕ). x ∷ y) (h (length rs) c) (same cs)

row_lines_cut : (rs : List Row) → map written_line (cut_body rs) ≡ map written_line rs
unfolding cut_body cut_row
row_lines_cut [] = refl
row_lines_cut (r ∷ rs) = ap (λ (l : List ℕ). r.line ∷ l) (row_lines_cut rs)

ends_cut : (n : ℕ) (rs : List Row) → cell_ends n (cut_body rs) ≡ cell_ends n rs
unfolding cut_body cut_row cell_ends
ends_cut n [] = refl
ends_cut n (r ∷ rs) =
    ap (λ (k : ℕ). (n + k) ∷ cell_ends (n + k) (cut_body rs)) (length-map r.cells (cut_cell (length rs)))
    ∙ ap (λ (l : List ℕ). (n + length r.cells) ∷ l) (ends_cut (n + length r.cells) rs)

pub kept_body : (f : Cell → ℕ) → ((x : ℕ) (c : Cell) → f (resolve_cell x c) ≡ f c) → ((x : ℕ) (c : Cell) → f (cut_cell x c) ≡ f c)
    → (rs : List Row) → map f (all_cells (resolve_body rs)) ≡ map f (all_cells rs)
unfolding resolve_body fill_body
kept_body f h g rs = kept_cut f g (fill_body rs) ∙ kept_resolved f h (widest rs) rs

pub cols_body : (rs : List Row) → map cell_cols (all_cells (resolve_body rs)) ≡ map cell_cols (all_cells (fill_body rs))
unfolding resolve_body
cols_body rs = kept_cut cell_cols (λ x c. refl) (fill_body rs)

pub row_lines_body : (rs : List Row) → map written_line (resolve_body rs) ≡ map written_line rs
unfolding resolve_body fill_body
row_lines_body rs = row_lines_cut (fill_body rs) ∙ row_lines_resolved (widest rs) rs

pub length_body : (rs : List Row) → length (resolve_body rs) ≡ length rs
length_body rs = sym (length-map (resolve_body rs) written_line) ∙ ap length (row_lines_body rs) ∙ length-map rs written_line

pub ends_body : (n : ℕ) (rs : List Row) → cell_ends n (resolve_body rs) ≡ cell_ends n rs
unfolding resolve_body fill_body
ends_body n rs = ends_cut n (fill_body rs) ∙ ends_resolved (widest rs) n rs

pub cells_body : (rs : List Row) → length (all_cells (resolve_body rs)) ≡ length (all_cells rs)
cells_body rs =
    sym (length-map (all_cells (resolve_body rs)) cell_line) ∙ ap length (kept_body cell_line (λ x c. refl) (λ x c. refl) rs) ∙ length-map (all_cells rs) cell_line

-- ---- rows read from the slices of spans and of ends

abbrev bare_row : Row → Row
bare_row r = row 0 (bare (map cell_cols r.cells))

-- the figures of the first row's cells, and of those of the rows after it
row_figures : (f : Cell → ℕ) (n : ℕ) (r : Row) (rs : List Row) (xs t : List ℕ) → drop n xs ≡ map f (all_cells (r ∷ rs)) ++ t
    → (part n (n + length r.cells) xs ≡ map f r.cells) × (drop (n + length r.cells) xs ≡ map f (all_cells rs) ++ t)
unfolding all_cells
row_figures f n r rs xs t h =
    let k = length r.cells in
    let b = map f (all_cells rs) ++ t in
    let e : n + k - n ≡ k = omega arith in
    let d : drop n xs ≡ map f r.cells ++ b = h ∙ ap (λ (l : List ℕ). l ++ t) (map-append f r.cells (all_cells rs)) ∙ append_assoc (map f r.cells) (map f (all_cells rs)) t in (
      ap₂ (λ (x : ℕ) (l : List ℕ). take x l) e d ∙ take_at (map f r.cells) b k (length-map r.cells f),
      sym (drop-drop k n xs) ∙ ap (drop k) d ∙ drop_at (map f r.cells) b k (length-map r.cells f),
    )

rows_read : (n : ℕ) (rs : List Row) (spans t : List ℕ) → drop n spans ≡ map cell_cols (all_cells rs) ++ t → rows_at n (cell_ends n rs) spans ≡ map bare_row rs
unfolding all_cells cell_ends rows_at
rows_read n [] spans t h = refl
rows_read n (r ∷ rs) spans t h =
    let (p, q) = row_figures cell_cols n r rs spans t h in
    ap₂ (λ (x : List ℕ) (y : List Row). row 0 (bare x) ∷ y) p (rows_read (n + length r.cells) rs spans t q)

widest_bare : (rs : List Row) → widest (map bare_row rs) ≡ widest rs
unfolding widest
widest_bare [] = refl
widest_bare (r ∷ rs) = ap₂ max (sum_bare r.cells) (widest_bare rs)

filled_bare : (x : ℕ) (cs : List Cell) → map cell_cols (map (resolve_cell x) (bare (map cell_cols cs))) ≡ map cell_cols (map (resolve_cell x) cs)
filled_bare x [] = refl
filled_bare x (c ∷ cs) = ap (λ (l : List ℕ). (resolve_cell x c).cols ∷ l) (filled_bare x cs)

cols_bare : (m : ℕ) (rs : List Row) → map cell_cols (all_cells (map (resolve_row m) (map bare_row rs))) ≡ map cell_cols (all_cells (map (resolve_row m) rs))
unfolding all_cells resolve_row
cols_bare m [] = refl
cols_bare m (r ∷ rs) =
    let b = bare (map cell_cols r.cells) in
    map-append cell_cols (map (resolve_cell (m - row_sum b + 1)) b) (all_cells (map (resolve_row m) (map bare_row rs)))
    ∙ ap₂ (λ (x y : List ℕ). x ++ y)
    (ap (λ (s : ℕ). map cell_cols (map (resolve_cell (m - s + 1)) b)) (sum_bare r.cells) ∙ filled_bare (m - row_sum r.cells + 1) r.cells)
    (cols_bare m rs)
    ∙ sym (map-append cell_cols (map (resolve_cell (m - row_sum r.cells + 1)) r.cells) (all_cells (map (resolve_row m) rs)))

-- a body's cols are resolved alike, whether its rows are read from the slices or not
pub resolved_read : (n : ℕ) (rs : List Row) (spans t : List ℕ) → drop n spans ≡ map cell_cols (all_cells rs) ++ t
    → map cell_cols (all_cells (fill_body (rows_at n (cell_ends n rs) spans))) ≡ map cell_cols (all_cells (resolve_body rs))
unfolding fill_body
resolved_read n rs spans t h =
    ap (λ (l : List Row). map cell_cols (all_cells (fill_body l))) (rows_read n rs spans t h)
    ∙ ap (λ (m : ℕ). map cell_cols (all_cells (map (resolve_row m) (map bare_row rs)))) (widest_bare rs)
    ∙ cols_bare (widest rs) rs
    ∙ sym (cols_body rs)

-- and its rows are cut alike
cut_cells : (n : ℕ) (rs : List Row) (rows t : List ℕ) → drop n rows ≡ map cell_rows (all_cells rs) ++ t
    → cut_at n (cell_ends n rs) rows ≡ map cell_rows (all_cells (cut_body rs))
unfolding all_cells cell_ends cut_at cut_body cut_row
cut_cells n [] rows t h = refl
cut_cells n (r ∷ rs) rows t h =
    let k = length r.cells in
    let (p, q) = row_figures cell_rows n r rs rows t h in
    let m : map (taken (length rs)) (map cell_rows r.cells) ≡ map cell_rows (map (cut_cell (length rs)) r.cells) =
    map-map (taken (length rs)) cell_rows r.cells ∙ sym (map-map cell_rows (cut_cell (length rs)) r.cells) in
    ap₂ (λ (x : ℕ) (y : List ℕ). map (taken x) (part n (n + k) rows) ++ y) (length_ends (n + k) rs) (cut_cells (n + k) rs rows t q)
    ∙ ap (λ (x : List ℕ). x ++ map cell_rows (all_cells (cut_body rs))) (ap (map (taken (length rs))) p ∙ m)
    ∙ sym (map-append cell_rows (map (cut_cell (length rs)) r.cells) (all_cells (cut_body rs)))

pub cut_read : (n : ℕ) (rs : List Row) (rows t : List ℕ) → drop n rows ≡ map cell_rows (all_cells rs) ++ t
    → cut_at n (cell_ends n rs) rows ≡ map cell_rows (all_cells (resolve_body rs))
unfolding resolve_body fill_body
cut_read n rs rows t h =
    ap (λ (l : List ℕ). cut_at n l rows) (sym (ends_resolved (widest rs) n rs))
    ∙ cut_cells n (fill_body rs) rows t (h ∙ ap (λ (l : List ℕ). l ++ t) (sym (kept_resolved cell_rows (λ x c. refl) (widest rs) rs)))
