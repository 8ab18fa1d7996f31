-- The loop of `merge_row` on plain lists and numbers: what holds at its head, what a turn does, and which entry is next.
use mathlib.Core.Path.{◌≡◌, refl, sym, ap, ap₂, subst, ◌∙◌}
use mathlib.Core.Bool.{Bool, true, false, ◌||◌}
use mathlib.Core.List.{List, [], ◌∷◌, ◌++◌, map, append_assoc, append-nil, map-append}
use Prim.Native.Nat.{ℕ, suc, ◌+◌, ◌/◌, ◌≤◌, ◌<◌, zero-le}
use native.Mathlib.Decide.{dec_lt}
use native.Mathlib.Numerals.{add-one}
use native.Mathlib.Omega.{arith}
use lib.ListN.{length, get_or, set, drop, drop_of_length-le, length-append, length-map}
use lib.Seq.{sets}
use lib.Dec.{leb, eqb}
use borrow.Author.Tests.{eqb-true, eq-eqb}
use Rattle.common.specs.Lists.{sum}
use Rattle.common.specs.inner.Lists.{over}
use Rattle.common.specs.Limits.{max_position}
use Rattle.common.proofs.Over.{over_none, over_push, over_sets}
use Rattle.resolved_rows.specs.declared.Cell.{Cell}
use Rattle.resolved_rows.specs.inner.Held.{cell_by, no_cell, held_line, held_span, held_rows, lines_of, spans_of, rowspans_of}
use Rattle.resolved_rows.specs.inner.Held.{cells_of as held_cells}
use Rattle.resolved_rows.proofs.Figures.{length_figures, figure_at_lem}
use Rattle.grid_row.specs.declared.Overhang.{Overhang}
use Rattle.grid_row.specs.inner.Overhangs.{overhang_in}
use Rattle.grid_row.specs.Row.{Item, item, item_span, items_end, rows_below, row_from, hang_of, nexts}
use Rattle.grid_row.specs.inner.Row.{item_line, item_left, item_pos, cells_of, hanging, due_at, Written, MergeRowPre, PutPost}
use Rattle.grid_row.proofs.Steps.{due_none, due_some, nexts_snoc, nexts_length, end_append, row_due, row_free, row_first, cells_length, cells_cut, hanging_length, hanging_cut}

-- what holds at the loop's head: `done` is the row so far, and it goes on as the row from here
pub record Sofar (H C : List Item) (l₀ s₀ nl₀ na₀ nw₀ l s nl na nw : List ℕ) (pos n k i h : ℕ) : Type 0 where
  pub done : List Item
  pub is : done ++ row_from pos (drop h H) (drop i C) ≡ row_from 0 H C
  pub ends : pos ≡ items_end done
  pub fits : pos ≤ max_position
  pub count : n ≡ length done
  pub both : n ≡ i + h
  pub in_cells : i ≤ length C
  pub in_hanging : h ≤ length H
  pub hanging_on : k ≡ length (nexts done)
  pub few : k ≤ n
  pub written : Written done l₀ s₀ nl₀ na₀ nw₀ l s nl na nw

-- a buffer gets one figure more
one_more : (f : Item → ℕ) (d : List Item) (x : Item) (o₀ o o' : List ℕ) (n : ℕ) → length d < length o₀ → n ≡ length d → o ≡ over (map f d) o₀ → o' ≡ set o n (f x)
    → o' ≡ over (map f (d ++ (x ∷ []))) o₀
one_more f d x o₀ o o' n h e w p =
    p ∙ ap₂ (λ (y : List ℕ) (m : ℕ). set y m (f x)) w (e ∙ sym (length-map d f))
    ∙ sym (over_push (map f d) o₀ (f x) (omega (arith, length-map d f)))
    ∙ sym (ap (λ (y : List ℕ). over y o₀) (map-append f d (x ∷ [])))

-- or the one or none that hangs on
some_more : (f : Item → ℕ) (d : List Item) (x : Item) (o₀ o o' : List ℕ) (k : ℕ) → length (nexts d) + length (hang_of x) ≤ length o₀ → k ≡ length (nexts d)
    → o ≡ over (map f (nexts d)) o₀ → o' ≡ sets o k (map f (hang_of x)) → o' ≡ over (map f (nexts (d ++ (x ∷ [])))) o₀
some_more f d x o₀ o o' k h e w p =
    p ∙ ap₂ (λ (y : List ℕ) (m : ℕ). sets y m (map f (hang_of x))) w (e ∙ sym (length-map (nexts d) f))
    ∙ sym (over_sets (map f (nexts d)) o₀ (map f (hang_of x)) (omega (arith, length-map (nexts d) f, length-map (hang_of x) f)))
    ∙ sym (ap (λ (y : List ℕ). over y o₀) (ap (map f) (nexts_snoc d x) ∙ map-append f (nexts d) (hang_of x)))

module _ (H C : List Item) (l₀ s₀ nl₀ na₀ nw₀ : List ℕ) (capacity : MergeRowPre (length C + length H) l₀ s₀ nl₀ na₀ nw₀) where
  pub start : Sofar H C l₀ s₀ nl₀ na₀ nw₀ l₀ s₀ nl₀ na₀ nw₀ 0 0 0 0 0
  unfolding nexts sum
  start = record {
    done = [];
    is = refl;
    ends = refl;
    fits = omega arith;
    count = refl;
    both = refl;
    in_cells = zero-le;
    in_hanging = zero-le;
    hanging_on = refl;
    few = zero-le;
    written = record {
      lines = sym (over_none l₀);
      spans = sym (over_none s₀);
      lefts = sym (over_none nl₀);
      ats = sym (over_none na₀);
      wides = sym (over_none nw₀);
    };
  }

  module _ {l s nl na nw : List ℕ} {pos n k i h : ℕ} (z : Sofar H C l₀ s₀ nl₀ na₀ nw₀ l s nl na nw pos n k i h) where
    -- one more entry x
    pub turn : (x : Item) (i' h' : ℕ) → row_from pos (drop h H) (drop i C) ≡ x ∷ row_from (pos + x.span) (drop h' H) (drop i' C)
        → pos + x.span ≤ max_position → i' + h' ≡ n + 1 → i' ≤ length C → h' ≤ length H
        → {l' s' nl' na' nw' : List ℕ} {r : ℕ} → PutPost n k x r l s nl na nw l' s' nl' na' nw'
        → Sofar H C l₀ s₀ nl₀ na₀ nw₀ l' s' nl' na' nw' (pos + x.span) (n + 1) r i' h'
    unfolding sum
    turn x i' h' e f b ic hh {l'} {s'} {nl'} {na'} {nw'} {r} p =
        let d = z.done in
        let len : length (d ++ (x ∷ [])) ≡ length d + 1 = length-append d (x ∷ []) in
        let hs : length (nexts (d ++ (x ∷ []))) ≡ length (nexts d) + length (hang_of x) = ap length (nexts_snoc d x) ∙ length-append (nexts d) (hang_of x) in
        let few' : length (nexts (d ++ (x ∷ []))) ≤ length (d ++ (x ∷ [])) = nexts_length (d ++ (x ∷ [])) in
        let below : length d < length C + length H = omega arith in
        let all : length (nexts d) + length (hang_of x) ≤ length C + length H = omega arith in
        record {
          done = d ++ (x ∷ []);
          is = append_assoc d (x ∷ []) (row_from (pos + x.span) (drop h' H) (drop i' C)) ∙ ap (λ (y : List Item). d ++ y) (sym e) ∙ z.is;
          ends = omega (arith, end_append d (x ∷ []));
          fits = f;
          count = omega arith;
          both = sym b;
          in_cells = ic;
          in_hanging = hh;
          hanging_on = omega (arith, p.hangs);
          few = omega (arith, p.hangs);
          written = record {
            lines = one_more item_line d x l₀ l l' n (omega (arith, capacity.lines)) z.count z.written.lines p.lines;
            spans = one_more item_span d x s₀ s s' n (omega (arith, capacity.spans)) z.count z.written.spans p.spans;
            lefts = some_more item_left d x nl₀ nl nl' k (omega (arith, capacity.lefts)) z.hanging_on z.written.lefts p.lefts;
            ats = some_more item_pos d x na₀ na na' k (omega (arith, capacity.ats)) z.hanging_on z.written.ats p.ats;
            wides = some_more item_span d x nw₀ nw nw' k (omega (arith, capacity.wides)) z.hanging_on z.written.wides p.wides;
          };
        }

    -- the next entry ends within the row
    pub within : (x : Item) (rest : List Item) → row_from pos (drop h H) (drop i C) ≡ x ∷ rest → items_end (row_from 0 H C) ≤ max_position → pos + x.span ≤ max_position
    unfolding sum
    within x rest e f =
        omega (arith, z.ends, ap items_end z.is, end_append z.done (row_from pos (drop h H) (drop i C)), ap items_end e)

    -- nothing is left
    pub stop : length C + length H ≤ n → z.done ≡ row_from 0 H C
    unfolding row_from
    stop f =
        let c : drop i C ≡ [] = drop_of_length-le C {i = i} (omega arith) in
        let g : drop h H ≡ [] = drop_of_length-le H {i = h} (omega arith) in
        sym (append-nil z.done) ∙ ap₂ (λ (x y : List Item). z.done ++ row_from pos x y) (sym g) (sym c) ∙ z.is

-- ---- which entry is next, by the number slices

not_both : {b : Bool} → b ≡ true → b ≡ false → ⊥
not_both t f = cc

or_false_right : (a b : Bool) → (a || b) ≡ false → b ≡ false
or_false_right true b e = absurd (not_both refl e)
or_false_right false b e = e

module _ (lines spans rows left at wide : List ℕ) (ea : length at ≡ length left) (pos i h : ℕ) (ic : i ≤ length lines) where
  abbrev C : List Item
  C = cells_of lines spans rows

  abbrev H : List Item
  H = hanging left at wide

  -- the cell at i and the hanging one at h
  abbrev pub cell_at : Item
  cell_at = item (get_or lines i 0) false (suc (rows_below (get_or rows i 0))) pos (get_or spans i 0)

  abbrev pub hang_at : Item
  hang_at = item 0 true (get_or left h 0) (get_or at h 0) (get_or wide h 0)

  module _ (d : due_at (drop h at) pos (eqb i (length lines)) ≡ true) where
    pub hang_there : h < length left
    hang_there = go (dec_lt h (length left))
      where
        go : Dec (h < length left) → h < length left
        go (yes w) = w
        go (no w) = absurd (not_both d (due_none at h pos (eqb i (length lines)) (omega arith)))

    pub hang_next : row_from pos (drop h H) (drop i C) ≡ hang_at ∷ row_from (pos + get_or wide h 0) (drop (h + 1) H) (drop i C)
    hang_next =
        let w = hang_there in
        ap (λ (y : List Item). row_from pos y (drop i C)) (hanging_cut left at wide h w)
        ∙ row_due (eqb i (length lines)) pos hang_at (drop (suc h) H) (drop i C) none_left (sym (due_some at h pos (eqb i (length lines)) (omega (arith, w))) ∙ d)
        ∙ ap (λ (m : ℕ). hang_at ∷ row_from (pos + get_or wide h 0) (drop m H) (drop i C)) (sym (add-one h))
      where
        none_left : eqb i (length lines) ≡ true → drop i C ≡ []
        none_left e = drop_of_length-le C {i = i} (omega (arith, eqb-true i (length lines) e, cells_length lines spans rows))

  module _ (more : i + h < length lines + length left) (d : due_at (drop h at) pos (eqb i (length lines)) ≡ false) where
    pub cell_there : i < length lines
    cell_there = go (dec_lt i (length lines))
      where
        go : Dec (i < length lines) → i < length lines
        go (yes v) = v
        go (no v) =
            let q : eqb i (length lines) ≡ true = eq-eqb i (length lines) (omega arith) in
            absurd (not_both (ap (λ (b : Bool). b || leb (get_or at h 0) pos) q) (sym (due_some at h pos (eqb i (length lines)) (omega arith)) ∙ d))

    pub cell_next : row_from pos (drop h H) (drop i C) ≡ cell_at ∷ row_from (pos + get_or spans i 0) (drop h H) (drop (i + 1) C)
    cell_next =
        ap (row_from pos (drop h H)) (cells_cut lines spans rows i cell_there)
        ∙ go (dec_lt h (length left))
        ∙ ap (λ (m : ℕ). cell_at ∷ row_from (pos + get_or spans i 0) (drop h H) (drop m C)) (sym (add-one i))
      where
        c : Item
        c = item (get_or lines i 0) false (suc (rows_below (get_or rows i 0))) 0 (get_or spans i 0)

        go : Dec (h < length left) → row_from pos (drop h H) (c ∷ drop (suc i) C) ≡ cell_at ∷ row_from (pos + get_or spans i 0) (drop h H) (drop (suc i) C)
        go (yes v) =
            let e : (eqb i (length lines) || leb (get_or at h 0) pos) ≡ false = sym (due_some at h pos (eqb i (length lines)) (omega arith)) ∙ d in
            rw (hanging_cut left at wide h v) (row_first pos hang_at (drop (suc h) H) c (drop (suc i) C) (or_false_right (eqb i (length lines)) (leb (get_or at h 0) pos) e))
        go (no v) = rw (drop_of_length-le H {i = h} (omega (arith, hanging_length left at wide))) (row_free pos c (drop (suc i) C))

-- ---- the same by the records of the cells and of what hangs

-- a row's cells
abbrev pub cells_in : List ℕ → List Item
cells_in cells = cells_of (lines_of cells) (spans_of cells) (rowspans_of cells)

pub cells_count : (cells : List ℕ) → length (cells_in cells) ≡ length cells / 3
cells_count cells = cells_length (lines_of cells) (spans_of cells) (rowspans_of cells) ∙ length_figures 3 cell_by held_line cells

pub roomy : (cells left at wide : List ℕ) {l s nl na nw : List ℕ} → MergeRowPre (length (lines_of cells) + length left) l s nl na nw
    → MergeRowPre (length (cells_in cells) + length (hanging left at wide)) l s nl na nw
roomy cells left at wide r = rw (cells_length (lines_of cells) (spans_of cells) (rowspans_of cells), hanging_length left at wide) r

-- a cell at a position, and one that hangs
abbrev pub held : ℕ → Cell → Item
held pos c = item c.line false (suc (rows_below c.rows)) pos c.span

abbrev pub hung : Overhang → Item
hung o = item 0 true o.left o.at o.span

module _ (cells left at wide : List ℕ) (ea : length at ≡ length left) (pos i h : ℕ) (ic : i ≤ length (cells_in cells))
    {b : Bool} (is : b ≡ due_at (drop h at) pos (eqb i (length cells / 3))) where
  inside : i ≤ length (lines_of cells)
  inside = omega (arith, cells_length (lines_of cells) (spans_of cells) (rowspans_of cells))

  due_here : due_at (drop h at) pos (eqb i (length (lines_of cells))) ≡ b
  due_here = ap (λ (m : ℕ). due_at (drop h at) pos (eqb i m)) (length_figures 3 cell_by held_line cells) ∙ sym is

  module _ (t : b ≡ true) where
    pub hung_there : h < length left
    hung_there = hang_there (lines_of cells) (spans_of cells) (rowspans_of cells) left at wide ea pos i h inside (due_here ∙ t)

    pub hung_next : (o : Overhang) → o ≡ overhang_in left at wide h
        → row_from pos (drop h (hanging left at wide)) (drop i (cells_in cells)) ≡ hung o ∷ row_from (pos + o.span) (drop (h + 1) (hanging left at wide)) (drop i (cells_in cells))
    hung_next o q = rw q (hang_next (lines_of cells) (spans_of cells) (rowspans_of cells) left at wide ea pos i h inside (due_here ∙ t))

  module _ (more : i + h < length cells / 3 + length left) (f : b ≡ false) where
    more_lines : i + h < length (lines_of cells) + length left
    more_lines = omega (arith, length_figures 3 cell_by held_line cells)

    pub held_there : i < length cells / 3
    held_there =
        omega (arith, cell_there (lines_of cells) (spans_of cells) (rowspans_of cells) left at wide ea pos i h inside more_lines (due_here ∙ f), length_figures 3 cell_by held_line cells)

    pub held_next : (c : Cell) → c ≡ get_or (held_cells cells) i no_cell
        → row_from pos (drop h (hanging left at wide)) (drop i (cells_in cells)) ≡ held pos c ∷ row_from (pos + c.span) (drop h (hanging left at wide)) (drop (i + 1) (cells_in cells))
    held_next c q =
        let l : get_or (lines_of cells) i 0 ≡ c.line = figure_at_lem 3 cell_by held_line cells i held_there ∙ sym (ap held_line q) in
        let r : get_or (rowspans_of cells) i 0 ≡ c.rows = figure_at_lem 3 cell_by held_rows cells i held_there ∙ sym (ap held_rows q) in
        let w : get_or (spans_of cells) i 0 ≡ c.span = figure_at_lem 3 cell_by held_span cells i held_there ∙ sym (ap held_span q) in
        subst (λ (x : Item). row_from pos (drop h (hanging left at wide)) (drop i (cells_in cells)) ≡ x ∷ row_from (pos + x.span) (drop h (hanging left at wide)) (drop (i + 1) (cells_in cells)))
        (λ j. item (l j) false (suc (rows_below (r j))) pos (w j))
        (cell_next (lines_of cells) (spans_of cells) (rowspans_of cells) left at wide ea pos i h inside more_lines (due_here ∙ f))
