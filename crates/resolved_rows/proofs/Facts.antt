-- What holds of the resolved rows of every table: where their lines stand, how large their cols are, how many there are. Each by induction
-- over the table's lines: what holds of the frame of the lines after a line holds of that line's frame.
use mathlib.Core.Path.{◌≡◌, refl, ap, ap₂}
use mathlib.Core.Bool.{Bool, true, false, cond}
use mathlib.Core.List.{List, [], ◌∷◌, ◌++◌, map}
use Prim.{tt}
use Prim.Native.Nat.{ℕ, suc, ◌+◌, ◌*◌, ◌-◌, ◌≤◌, ◌<◌, min}
use native.Mathlib.Decide.{ℕ_discrete}
use native.Mathlib.Omega.{arith}
use lib.Dec.{leb, eqb}
use lib.ListN.{length, length-append, length-map}
use borrow.Author.Tests.{eq-eqb, ne_eqb}
use Rattle.common.specs.Limits.{max_cols}
use Rattle.common.specs.Lists.{sum, All}
use Rattle.common.proofs.All.{all_append, all_map, all_weaken}
use Rattle.records.specs.declared.NodeRecord.{NodeRecord}
use Rattle.resolved_rows.specs.Cells.{Cell, Row, Frame, cell, row, no_frame, open_body, open_row, open_cell, frame, bodies_of, row_sum, widest, resolve_cell, resolve_row, taken, cut_cell, cut_row, fill_body, cut_body, resolve_body, resolved}
use Rattle.resolved_rows.specs.inner.Listed.{all_cells}
use Rattle.resolved_rows.specs.Facts.{LineFits, CellFits, RowFits, Ending}
use Rattle.resolved_rows.proofs.Rows.{cells_append, cells_body, length_body}

-- ---- what holds of a frame whichever way its line goes

cond_both : (P : Frame → Type 0) (b : Bool) {f g : Frame} → P f → P g → P (cond b f g)
cond_both P true p q = p
cond_both P false p q = q

frame_all : (P : ℕ → List NodeRecord → Frame → Type 0) (d : ℕ)
    → ((k : ℕ) (ls : List NodeRecord) → P k ls no_frame)
    → ((k : ℕ) (l : NodeRecord) (ls : List NodeRecord) (f : Frame) → P (suc k) ls f → P k (l ∷ ls) (open_body f) × P k (l ∷ ls) (open_row k f) × P k (l ∷ ls) (open_cell k l f) × P k (l ∷ ls) f)
    → (k : ℕ) (ls : List NodeRecord) → P k ls (frame d k ls)
unfolding frame
frame_all P d p q k [] = p k []
frame_all P d p q k (l ∷ ls) =
    let r = q k l ls (frame d (suc k) ls) (frame_all P d p q (suc k) ls) in
    cond_both (P k (l ∷ ls)) (leb l.depth d) (p k (l ∷ ls))
    (cond_both (P k (l ∷ ls)) (eqb l.depth (d + 1)) r.0
    (cond_both (P k (l ∷ ls)) (eqb l.depth (d + 2)) r.1
    (cond_both (P k (l ∷ ls)) (eqb l.depth (d + 3)) r.2 r.3)))

-- ---- how many there are

-- rows and their cells
abbrev size : List Row → ℕ
size rs = length rs + length (all_cells rs)

abbrev sizes : List (List Row) → ℕ
sizes [] = 0
sizes (b ∷ bs) = size b + sizes bs

size_resolved : (bs : List (List Row)) → size (resolved bs) ≡ sizes bs
unfolding resolved all_cells
size_resolved [] = omega arith
size_resolved (b ∷ bs) =
    omega (
      arith,
      size_resolved bs,
      length-append (resolve_body b) (resolved bs),
      length_body b,
      cells_body b,
      ap length (cells_append (resolve_body b) (resolved bs)),
      length-append (all_cells (resolve_body b)) (all_cells (resolved bs)),
    )

frame_few : (d k : ℕ) (ls : List NodeRecord) → length (frame d k ls).cells + size (frame d k ls).rows + sizes (frame d k ls).bodies + length (frame d k ls).bodies ≤ length ls
unfolding all_cells
frame_few d =
    frame_all (λ k ls f. length f.cells + size f.rows + sizes f.bodies + length f.bodies ≤ length ls) d
    (λ k ls. omega arith)
    (λ k l ls f h. (omega (arith, h), omega (arith, h, length-append f.cells (all_cells f.rows)), omega (arith, h), omega (arith, h)))

-- bodies, rows and cells are no more than the lines that follow the table's
pub rows_few : (d t : ℕ) (ls : List NodeRecord)
    → length (resolved (bodies_of d t ls)) + length (all_cells (resolved (bodies_of d t ls))) + length (bodies_of d t ls) ≤ length ls
rows_few d t ls = omega (arith, size_resolved (bodies_of d t ls), frame_few d (suc t) ls)

-- ---- where they stand, and how large they are

-- a written cell and a written row of the n lines from line k on
record CellIn (k n : ℕ) (c : Cell) : Type 0 where
  pub after : k ≤ c.line
  pub within : c.line < k + n
  pub narrow : c.cols ≤ max_cols

record RowIn (k n : ℕ) (r : Row) : Type 0 where
  pub after : k ≤ r.line
  pub within : r.line < k + n
  pub few : length r.cells ≤ n
  pub cells : All (CellIn k n) r.cells

record FrameIn (k n : ℕ) (f : Frame) : Type 0 where
  pub few : length f.cells ≤ n
  pub cells : All (CellIn k n) f.cells
  pub rows : All (RowIn k n) f.rows
  pub bodies : All (All (RowIn k n)) f.bodies

cell_in_fits : (k n : ℕ) (c : Cell) → CellIn (suc k) n c → CellIn k (suc n) c
cell_in_fits k n c h = record { after = omega (arith, h.after); within = omega (arith, h.within); narrow = h.narrow }

row_in : (k n : ℕ) (r : Row) → RowIn (suc k) n r → RowIn k (suc n) r
row_in k n r h = record { after = omega (arith, h.after); within = omega (arith, h.within); few = omega (arith, h.few); cells = all_weaken _ _ (cell_in_fits k n) r.cells h.cells }

frame_more : (k n : ℕ) (f : Frame) → FrameIn (suc k) n f → FrameIn k (suc n) f
frame_more k n f h = record {
  few = omega (arith, h.few);
  cells = all_weaken _ _ (cell_in_fits k n) f.cells h.cells;
  rows = all_weaken _ _ (row_in k n) f.rows h.rows;
  bodies = all_weaken _ _ (λ b. all_weaken _ _ (row_in k n) b) f.bodies h.bodies;
}

frame_turn : (k : ℕ) (l : NodeRecord) (ls : List NodeRecord) (f : Frame) → LineFits l → FrameIn (suc k) (length ls) f
    → FrameIn k (suc (length ls)) (open_body f) × FrameIn k (suc (length ls)) (open_row k f) × FrameIn k (suc (length ls)) (open_cell k l f) × FrameIn k (suc (length ls)) f
unfolding All
frame_turn k l ls f e h =
    let m = frame_more k (length ls) f h in (
      record { few = omega arith; cells = tt; rows = tt; bodies = (m.rows, m.bodies) },
      record {
        few = omega arith;
        cells = tt;
        rows = (record { after = omega arith; within = omega arith; few = m.few; cells = m.cells }, m.rows);
        bodies = m.bodies;
      },
      record {
        few = omega (arith, h.few);
        cells = (record { after = omega arith; within = omega arith; narrow = e.narrow }, m.cells);
        rows = m.rows;
        bodies = m.bodies;
      },
      m,
    )

frame_in : (d k : ℕ) (ls : List NodeRecord) → All LineFits ls → FrameIn k (length ls) (frame d k ls)
unfolding All
frame_in d =
    frame_all (λ k ls f. All LineFits ls → FrameIn k (length ls) f) d
    (λ k ls e. record { few = omega arith; cells = tt; rows = tt; bodies = tt })
    (λ k l ls f h. (
      λ e. (frame_turn k l ls f e.0 (h e.1)).0,
      λ e. (frame_turn k l ls f e.0 (h e.1)).1,
      λ e. (frame_turn k l ls f e.0 (h e.1)).2,
      λ e. (frame_turn k l ls f e.0 (h e.1)).3,
    ))

row_small : (k n : ℕ) (cs : List Cell) → All (CellIn k n) cs → row_sum cs ≤ length cs * max_cols
unfolding All row_sum sum
row_small k n [] e = omega arith
row_small k n (c ∷ cs) e = omega (arith, e.0.narrow, row_small k n cs e.1)

body_small : (k n : ℕ) (rs : List Row) → All (RowIn k n) rs → widest rs ≤ n * max_cols
unfolding All widest
body_small k n [] e = omega arith
body_small k n (r ∷ rs) e = omega (arith, e.0.few, row_small k n r.cells e.0.cells, body_small k n rs e.1)

-- what a cell's cols become
filled_fits : (x n most : ℕ) → 1 ≤ x → x ≤ most → n ≤ most → (1 ≤ cond (eqb n 0) x n) × (cond (eqb n 0) x n ≤ most)
filled_fits x n most a b c = by (ℕ_discrete n 0)
  where
    by : Dec (n ≡ 0) → (1 ≤ cond (eqb n 0) x n) × (cond (eqb n 0) x n ≤ most)
    by (yes e) = rw (eq-eqb n 0 e) (a, b)
    by (no e) = rw (ne_eqb n 0 e) (omega arith)

-- no cell takes more rows than are left
taken_fits : (left rows : ℕ) → (1 ≤ taken left rows) × (taken left rows ≤ suc left)
taken_fits left rows = by (eqb rows 0)
  where
    by : (b : Bool) → (1 ≤ suc (cond b left (min (rows - 1) left))) × (suc (cond b left (min (rows - 1) left)) ≤ suc left)
    by true = omega arith
    by false = omega arith

cell_fits : (t n x left : ℕ) → 1 ≤ x → x ≤ n * max_cols + 1 → left < n → (c : Cell) → CellIn (suc t) n c → CellFits t n (cut_cell left (resolve_cell x c))
cell_fits t n x left a b l c h =
    let q = filled_fits x c.cols (n * max_cols + 1) a b (omega (arith, h.narrow, h.after, h.within)) in
    let s = taken_fits left c.rows in
    record { after = omega (arith, h.after); within = omega (arith, h.within); wide = q.0; narrow = q.1; tall = s.0; short = omega (arith, s.1) }

row_fits : (t n m left : ℕ) → m ≤ n * max_cols → left < n → (r : Row) → RowIn (suc t) n r → RowFits t n (cut_row left (resolve_row m r))
unfolding resolve_row cut_row
row_fits t n m left s l r h = record {
  after = omega (arith, h.after);
  within = omega (arith, h.within);
  cells =
      all_map (λ c. CellFits t n (cut_cell left c)) (CellFits t n) (cut_cell left) (λ c p. p) (map (resolve_cell (m - row_sum r.cells + 1)) r.cells)
      (all_map (CellIn (suc t) n) (λ c. CellFits t n (cut_cell left c)) (resolve_cell (m - row_sum r.cells + 1))
      (cell_fits t n (m - row_sum r.cells + 1) left (omega arith) (omega arith) l) r.cells h.cells);
}

body_fits : (t n m : ℕ) → m ≤ n * max_cols → (rs : List Row) → length rs ≤ n → All (RowIn (suc t) n) rs → All (RowFits t n) (cut_body (map (resolve_row m) rs))
unfolding All cut_body
body_fits t n m s [] l e = tt
body_fits t n m s (r ∷ rs) l e =
    (row_fits t n m (length (map (resolve_row m) rs)) s (omega (arith, length-map rs (resolve_row m))) r e.0, body_fits t n m s rs (omega arith) e.1)

bodies_fit : (t n : ℕ) (bs : List (List Row)) → sizes bs ≤ n → All (All (RowIn (suc t) n)) bs → All (RowFits t n) (resolved bs)
unfolding All resolved resolve_body fill_body
bodies_fit t n [] l e = tt
bodies_fit t n (b ∷ bs) l e =
    all_append (RowFits t n) (resolve_body b) (resolved bs)
    (body_fits t n (widest b) (body_small (suc t) n b e.0) b (omega arith) e.0) (bodies_fit t n bs (omega arith) e.1)

-- the rows of the table of depth d whose line is line t, where the lines ls follow
pub rows_fit : (d t : ℕ) (ls : List NodeRecord) → All LineFits ls → All (RowFits t (length ls)) (resolved (bodies_of d t ls))
rows_fit d t ls e = bodies_fit t (length ls) (bodies_of d t ls) (omega (arith, frame_few d (suc t) ls)) (frame_in d (suc t) ls e).bodies

-- every resolved cols is at least 1, whatever the rows are
pub resolved_wide : (bs : List (List Row)) → All (λ r. All (λ c. 1 ≤ c.cols) r.cells) (resolved bs)
unfolding All resolved resolve_body fill_body resolve_row cut_body cut_row
resolved_wide [] = tt
resolved_wide (b ∷ bs) =
    all_append (λ r. All (λ c. 1 ≤ c.cols) r.cells) (resolve_body b) (resolved bs)
    (wide_cut (map (resolve_row (widest b)) b) (wide_rows (widest b) b)) (resolved_wide bs)
  where
    wide_cut : (rs : List Row) → All (λ r. All (λ c. 1 ≤ c.cols) r.cells) rs → All (λ r. All (λ c. 1 ≤ c.cols) r.cells) (cut_body rs)
    wide_cut [] e = tt
    wide_cut (r ∷ rs) e = (all_map (λ c. 1 ≤ c.cols) (λ c. 1 ≤ c.cols) (cut_cell (length rs)) (λ c w. w) r.cells e.0, wide_cut rs e.1)

    wide_cells : (x : ℕ) → 1 ≤ x → (cs : List Cell) → All (λ c. 1 ≤ c.cols) (map (resolve_cell x) cs)
    wide_cells x h [] = tt
    wide_cells x h (c ∷ cs) = ((filled_fits x c.cols (x + c.cols) h (omega arith) (omega arith)).0, wide_cells x h cs)

    wide_rows : (m : ℕ) (rs : List Row) → All (λ r. All (λ c. 1 ≤ c.cols) r.cells) (map (resolve_row m) rs)
    wide_rows m [] = tt
    wide_rows m (r ∷ rs) = (wide_cells (m - row_sum r.cells + 1) (omega arith) r.cells, wide_rows m rs)

-- ---- no cell of a resolved body takes more rows than its own and those after it in the body

cut_ends : (rs : List Row) → Ending (cut_body rs)
unfolding All cut_body cut_row
cut_ends [] = tt
cut_ends (r ∷ rs) = and_rows r.cells (cut_ends rs)
  where
    length_cut : (ss : List Row) → length (cut_body ss) ≡ length ss
    length_cut [] = refl
    length_cut (q ∷ ss) = ap suc (length_cut ss)

    takes : (n : ℕ) → n ≡ length rs → (cs : List Cell) → All (λ c. (1 ≤ c.rows) × (c.rows ≤ suc n)) (map (cut_cell (length rs)) cs)
    takes n e [] = tt
    takes n e (c ∷ cs) = (let s = taken_fits (length rs) c.rows in (s.0, omega (arith, s.1, e)), takes n e cs)

    and_rows : (cs : List Cell) → Ending (cut_body rs) → Ending (row r.line (map (cut_cell (length rs)) cs) ∷ cut_body rs)
    and_rows cs q = (takes (length (cut_body rs)) (length_cut rs) cs, q)

pub body_ends : (rs : List Row) → Ending (resolve_body rs)
unfolding resolve_body
body_ends rs = cut_ends (fill_body rs)

-- ---- a body without rows 0 in which no span leaves it is resolved as it was before: cols alone change

cut_same : (rs : List Row) → Ending rs → cut_body rs ≡ rs
unfolding All cut_body cut_row
cut_same [] e = refl
cut_same (r ∷ rs) e = ap₂ (λ (x : List Cell) (y : List Row). row r.line x ∷ y) (same r.cells e.0) (cut_same rs e.1)
  where
    figure : (left rows : ℕ) → 1 ≤ rows → rows ≤ suc left → taken left rows ≡ rows
    figure left rows a b = rw (ne_eqb rows 0 (λ e. omega (arith, e))) (omega arith)

    same : (cs : List Cell) → All (λ c. (1 ≤ c.rows) × (c.rows ≤ suc (length rs))) cs → map (cut_cell (length rs)) cs ≡ cs
    same [] p = refl
    same (c ∷ cs) p = ap₂ (λ (x : ℕ) (y : List Cell). cell c.line c.cols x ∷ y) (figure (length rs) c.rows p.0.0 p.0.1) (same cs p.1)

fill_ends : (m : ℕ) (rs : List Row) → Ending rs → Ending (map (resolve_row m) rs)
unfolding resolve_row
fill_ends m [] e = e
fill_ends m (r ∷ rs) e = (
  all_map (λ c. (1 ≤ c.rows) × (c.rows ≤ suc (length rs))) (λ c. (1 ≤ c.rows) × (c.rows ≤ suc (length (map (resolve_row m) rs))))
      (resolve_cell (m - row_sum r.cells + 1)) (λ c p. (p.0, omega (arith, p.1, length-map rs (resolve_row m)))) r.cells e.0,
  fill_ends m rs e.1,
)

pub body_same : (rs : List Row) → Ending rs → resolve_body rs ≡ fill_body rs
unfolding resolve_body fill_body
body_same rs e = cut_same (fill_body rs) (fill_ends (widest rs) rs e)

-- the rows of all bodies, their cols alone resolved
unfoldable pub filled_rows : List (List Row) → List Row
filled_rows [] = []
filled_rows (b ∷ bs) = fill_body b ++ filled_rows bs

pub resolved_same : (bs : List (List Row)) → All Ending bs → resolved bs ≡ filled_rows bs
unfolding All resolved filled_rows
resolved_same [] e = refl
resolved_same (b ∷ bs) e = ap₂ (λ (x y : List Row). x ++ y) (body_same b e.0) (resolved_same bs e.1)
