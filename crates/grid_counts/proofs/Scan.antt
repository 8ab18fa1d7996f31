-- The cells of a row, the rows of a body and the bodies of a table, line by line.
use mathlib.Core.Path.{◌≡◌, ap}
use mathlib.Core.List.{List, [], ◌∷◌}
use Prim.Native.Nat.{ℕ, ◌+◌, ◌-◌, ◌≤◌, ◌<◌}
use native.Mathlib.Decide.{dec_lt, ℕ_discrete}
use native.Mathlib.Omega.{arith}
use lib.ListN.{length, get_or, take, drop, length-drop, get_or-eq_default}
use lib.Seq.{take_all, get_or-drop}
use Rattle.records.specs.NodeRecord.{no_node}
use Rattle.records.specs.declared.NodeRecord.{NodeRecord}
use Rattle.resolved_rows.specs.Cells.{Cell, Row, Frame, frame, cell, row, open_body, open_row, open_cell}
use Rattle.grid_counts.specs.inner.Tallies.{Lines}
use Rattle.resolved_rows.proofs.Lines.{stop_from, body_from, row_from, cell_from, deeper_from, inside}

-- what the lines from place i on hold, below a table of depth d, where the first of all has the number n: the cells of the open row, the other rows of
-- its body, and the other bodies
abbrev pub framed : ℕ → List NodeRecord → ℕ → ℕ → Frame
framed n ks d i = frame d (i + n) (drop i ks)

pub framed_all : (n : ℕ) (ks : List NodeRecord) (d : ℕ) → framed n ks d 0 ≡ frame d n ks
framed_all n ks d = let e : 0 + n ≡ n = omega arith in ap (λ (k : ℕ). frame d k ks) e

-- the lines that are lent from a place on
pub rest_is : {A : Type 0} (xs : List A) (i : ℕ) → take (length xs - i) (drop i xs) ≡ drop i xs
rest_is xs i = take_all (length xs - i) (drop i xs) (omega (arith, length-drop i xs))

-- what lines that are lent from a place on have
pub lines_lent : {ks : List NodeRecord} {d : ℕ} (i : ℕ) → Lines ks d → Lines (take (length ks - i) (drop i ks)) d
lines_lent {ks} {d} i t = rw (rest_is ks i) record {
  short = omega (arith, length-drop i ks, t.short);
  shallow = t.shallow;
  narrow = λ k. omega (arith, ap (λ (x : NodeRecord). x.cols) (get_or-drop i ks k no_node), t.narrow (i + k));
}

abbrev cells_of : Frame → List Cell
cells_of f = f.cells

abbrev rows_of : Frame → List Row
rows_of f = f.rows

abbrev bodies_of : Frame → List (List Row)
bodies_of f = f.bodies

module _ (n : ℕ) (ks : List NodeRecord) (d i : ℕ) where
  abbrev depth : ℕ
  depth = (get_or ks i no_node).depth

  -- ---- where they end

  pub bodies_none : depth ≤ d → (framed n ks d i).bodies ≡ []
  bodies_none h = ap bodies_of (stop_from n ks d i h)

  pub rows_none : depth ≤ d + 1 → (framed n ks d i).rows ≡ []
  rows_none h = go (dec_lt d depth)
    where
      go : Dec (d < depth) → (framed n ks d i).rows ≡ []
      go (yes g) = ap rows_of (body_from n ks d i g (omega arith))
      go (no g) = ap rows_of (stop_from n ks d i (omega arith))

  pub cells_none : depth ≤ d + 2 → (framed n ks d i).cells ≡ []
  cells_none h = go (dec_lt d depth) (ℕ_discrete depth (d + 1))
    where
      go : Dec (d < depth) → Dec (depth ≡ d + 1) → (framed n ks d i).cells ≡ []
      go (no g) e = ap cells_of (stop_from n ks d i (omega arith))
      go (yes g) (yes e) = ap cells_of (body_from n ks d i g e)
      go (yes g) (no e) = ap cells_of (row_from n ks d i g e (omega arith))

  -- ---- a line

  abbrev l : NodeRecord
  l = get_or ks i no_node

  pub there : d < depth → i < length ks
  there h = inside ks i d h

  pub body_here : d < depth → depth - d ≡ 1 → framed n ks d i ≡ open_body (framed n ks d (i + 1))
  body_here h e = body_from n ks d i (omega arith) (omega arith)

  pub row_here : d + 1 < depth → depth - (d + 1) ≡ 1 → framed n ks d i ≡ open_row (i + n) (framed n ks d (i + 1))
  row_here h e = row_from n ks d i (omega arith) (λ o. omega (arith, o)) (omega arith)

  pub cell_here : d + 2 < depth → depth - (d + 2) ≡ 1 → framed n ks d i ≡ open_cell (i + n) l (framed n ks d (i + 1))
  cell_here h e =
      cell_from n ks d i (omega arith) (λ o. omega (arith, o)) (λ o. omega (arith, o)) (omega arith)

  -- a line that is deeper changes nothing of what stands above it
  pub cells_on : d + 2 < depth → (depth - (d + 2) ≡ 1 → ⊥) → (framed n ks d i).cells ≡ (framed n ks d (i + 1)).cells
  cells_on h other =
      ap cells_of (deeper_from n ks d i (omega arith) (λ o. omega (arith, o)) (λ o. omega (arith, o)) (λ o. other (omega (arith, o))))

  pub rows_on : d + 1 < depth → (depth - (d + 1) ≡ 1 → ⊥) → (framed n ks d i).rows ≡ (framed n ks d (i + 1)).rows
  rows_on h other = go (ℕ_discrete depth (d + 3))
    where
      a : d < depth
      a = omega arith

      b : depth ≡ d + 1 → ⊥
      b o = omega (arith, o)

      c : depth ≡ d + 2 → ⊥
      c o = other (omega (arith, o))

      go : Dec (depth ≡ d + 3) → (framed n ks d i).rows ≡ (framed n ks d (i + 1)).rows
      go (yes e) = ap rows_of (cell_from n ks d i a b c e)
      go (no e) = ap rows_of (deeper_from n ks d i a b c e)

  pub bodies_on : d < depth → (depth - d ≡ 1 → ⊥) → (framed n ks d i).bodies ≡ (framed n ks d (i + 1)).bodies
  bodies_on h other = go (ℕ_discrete depth (d + 2)) (ℕ_discrete depth (d + 3))
    where
      a : d < depth
      a = omega arith

      b : depth ≡ d + 1 → ⊥
      b o = other (omega (arith, o))

      go : Dec (depth ≡ d + 2) → Dec (depth ≡ d + 3) → (framed n ks d i).bodies ≡ (framed n ks d (i + 1)).bodies
      go (yes e) f = ap bodies_of (row_from n ks d i a b e)
      go (no e) (yes f) = ap bodies_of (cell_from n ks d i a b e f)
      go (no e) (no f) = ap bodies_of (deeper_from n ks d i a b e f)

  pub cells_more : d + 2 < depth → depth - (d + 2) ≡ 1 → (framed n ks d i).cells ≡ cell (i + n) l.cols l.rows ∷ (framed n ks d (i + 1)).cells
  cells_more h e = ap cells_of (cell_here h e)

  pub rows_more : d + 1 < depth → depth - (d + 1) ≡ 1 → (framed n ks d i).rows ≡ row (i + n) (framed n ks d (i + 1)).cells ∷ (framed n ks d (i + 1)).rows
  rows_more h e = ap rows_of (row_here h e)

  pub bodies_more : d < depth → depth - d ≡ 1 → (framed n ks d i).bodies ≡ (framed n ks d (i + 1)).rows ∷ (framed n ks d (i + 1)).bodies
  bodies_more h e = ap bodies_of (body_here h e)

-- past the last line there is none
pub past_lines : (ks : List NodeRecord) (i : ℕ) → length ks ≤ i → (get_or ks i no_node).depth ≡ 0
past_lines ks i h = ap (λ (k : NodeRecord). k.depth) (get_or-eq_default ks no_node {n = i} h)
