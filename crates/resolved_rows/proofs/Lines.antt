-- What the frame of a table takes from each of the lines after it.
use mathlib.Core.Path.{◌≡◌, sym, ap, ◌∙◌}
use mathlib.Core.List.{List, [], ◌∷◌}
use Prim.Native.Nat.{ℕ, suc, ◌+◌, ◌≤◌, ◌<◌}
use native.Mathlib.Decide.{dec_lt}
use native.Mathlib.Numerals.{add-one}
use native.Mathlib.Omega.{arith}
use lib.ListN.{length, get_or, drop, drop_of_length-le, get_or-eq_default}
use lib.Seq.{drop-cons}
use borrow.Author.Tests.{le-leb, lt-leb, eq-eqb, ne_eqb}
use Rattle.records.specs.NodeRecord.{no_node}
use Rattle.records.specs.declared.NodeRecord.{NodeRecord}
use Rattle.resolved_rows.specs.Cells.{Frame, no_frame, open_body, open_row, open_cell, frame}

-- a place that holds more than 0 is within the list
pub inside : (ks : List NodeRecord) (i d : ℕ) → d < (get_or ks i no_node).depth → i < length ks
inside ks i d h = at (dec_lt i (length ks))
  where
    at : Dec (i < length ks) → i < length ks
    at (yes g) = g
    at (no g) = absurd (omega (arith, ap (λ (k : NodeRecord). k.depth) (get_or-eq_default ks no_node {n = i} (omega arith))))

-- ---- frame

module _ (d k : ℕ) (l : NodeRecord) (ls : List NodeRecord) where
  line_stop : l.depth ≤ d → frame d k (l ∷ ls) ≡ no_frame
  unfolding frame
  line_stop h = rw (le-leb l.depth d h)

  module _ (h : d < l.depth) where
    line_body : l.depth ≡ d + 1 → frame d k (l ∷ ls) ≡ open_body (frame d (suc k) ls)
    unfolding frame
    line_body b = rw (lt-leb l.depth d h, eq-eqb l.depth (d + 1) b)

    module _ (b : l.depth ≡ d + 1 → ⊥) where
      line_row : l.depth ≡ d + 2 → frame d k (l ∷ ls) ≡ open_row k (frame d (suc k) ls)
      unfolding frame
      line_row r = rw (lt-leb l.depth d h, ne_eqb l.depth (d + 1) b, eq-eqb l.depth (d + 2) r)

      module _ (r : l.depth ≡ d + 2 → ⊥) where
        line_cell : l.depth ≡ d + 3 → frame d k (l ∷ ls) ≡ open_cell k l (frame d (suc k) ls)
        unfolding frame
        line_cell c = rw (lt-leb l.depth d h, ne_eqb l.depth (d + 1) b, ne_eqb l.depth (d + 2) r, eq-eqb l.depth (d + 3) c)

        line_deeper : (l.depth ≡ d + 3 → ⊥) → frame d k (l ∷ ls) ≡ frame d (suc k) ls
        unfolding frame
        line_deeper c = rw (lt-leb l.depth d h, ne_eqb l.depth (d + 1) b, ne_eqb l.depth (d + 2) r, ne_eqb l.depth (d + 3) c)

-- the lines from place i on, where the first of all has the number n
module _ (n : ℕ) (ks : List NodeRecord) (d i : ℕ) where
  abbrev pub framed_from : Frame
  framed_from = frame d (i + n) (drop i ks)

  abbrev after_from : Frame
  after_from = frame d (i + 1 + n) (drop (i + 1) ks)

  abbrev here : NodeRecord
  here = get_or ks i no_node

  lines_more : i < length ks → drop i ks ≡ here ∷ drop (i + 1) ks
  lines_more h = drop-cons ks i no_node h ∙ ap (λ (k : ℕ). here ∷ drop k ks) (sym (add-one i))

  next : i < length ks → (f : Frame → Frame) → frame d (i + n) (here ∷ drop (i + 1) ks) ≡ f (frame d (suc (i + n)) (drop (i + 1) ks))
      → framed_from ≡ f after_from
  next h f e =
      let same : suc (i + n) ≡ i + 1 + n = omega arith in
      ap (frame d (i + n)) (lines_more h) ∙ e
      ∙ ap (λ (k : ℕ). f (frame d k (drop (i + 1) ks))) same

  pub stop_from : (get_or ks i no_node).depth ≤ d → framed_from ≡ no_frame
  unfolding frame
  stop_from h = at (dec_lt i (length ks))
    where
      at : Dec (i < length ks) → framed_from ≡ no_frame
      at (yes g) = ap (frame d (i + n)) (lines_more g) ∙ line_stop d (i + n) here (drop (i + 1) ks) h
      at (no g) = ap (frame d (i + n)) (drop_of_length-le ks {i = i} (omega arith))

  module _ (h : d < (get_or ks i no_node).depth) where
    pub body_from : (get_or ks i no_node).depth ≡ d + 1 → framed_from ≡ open_body after_from
    body_from b = next (inside ks i d h) open_body (line_body d (i + n) here (drop (i + 1) ks) h b)

    module _ (b : (get_or ks i no_node).depth ≡ d + 1 → ⊥) where
      pub row_from : (get_or ks i no_node).depth ≡ d + 2 → framed_from ≡ open_row (i + n) after_from
      row_from r = next (inside ks i d h) (open_row (i + n)) (line_row d (i + n) here (drop (i + 1) ks) h b r)

      module _ (r : (get_or ks i no_node).depth ≡ d + 2 → ⊥) where
        pub cell_from : (get_or ks i no_node).depth ≡ d + 3 → framed_from ≡ open_cell (i + n) here after_from
        cell_from c = next (inside ks i d h) (open_cell (i + n) here) (line_cell d (i + n) here (drop (i + 1) ks) h b r c)

        pub deeper_from : ((get_or ks i no_node).depth ≡ d + 3 → ⊥) → framed_from ≡ after_from
        deeper_from c = next (inside ks i d h) (λ f. f) (line_deeper d (i + n) here (drop (i + 1) ks) h b r c)

-- the same where the first line of all is line 1
module _ (ks : List NodeRecord) (d i : ℕ) where
  abbrev pub framed : Frame
  framed = frame d (i + 1) (drop i ks)

  abbrev pub after : Frame
  after = frame d (i + 1 + 1) (drop (i + 1) ks)

  pub frame_stop : (get_or ks i no_node).depth ≤ d → framed ≡ no_frame
  frame_stop = stop_from 1 ks d i

  module _ (h : d < (get_or ks i no_node).depth) where
    pub frame_body : (get_or ks i no_node).depth ≡ d + 1 → framed ≡ open_body after
    frame_body = body_from 1 ks d i h

    module _ (b : (get_or ks i no_node).depth ≡ d + 1 → ⊥) where
      pub frame_row : (get_or ks i no_node).depth ≡ d + 2 → framed ≡ open_row (i + 1) after
      frame_row = row_from 1 ks d i h b

      module _ (r : (get_or ks i no_node).depth ≡ d + 2 → ⊥) where
        pub frame_cell : (get_or ks i no_node).depth ≡ d + 3 → framed ≡ open_cell (i + 1) (get_or ks i no_node) after
        frame_cell = cell_from 1 ks d i h b r

        pub frame_deeper : ((get_or ks i no_node).depth ≡ d + 3 → ⊥) → framed ≡ after
        frame_deeper = deeper_from 1 ks d i h b r

  -- no row stands before the first body
  pub frame_first : (get_or ks i no_node).depth ≤ d + 1 → framed.rows ≡ []
  frame_first h = at (dec_lt d (get_or ks i no_node).depth)
    where
      at : Dec (d < (get_or ks i no_node).depth) → framed.rows ≡ []
      at (yes g) = ap (λ (f : Frame). f.rows) (frame_body g (omega arith))
      at (no g) = ap (λ (f : Frame). f.rows) (frame_stop (omega arith))
