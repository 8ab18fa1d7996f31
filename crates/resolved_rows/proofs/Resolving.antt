-- Cells resolved in their records: those of a row, one after the other, and the rows of a body.
use mathlib.Core.Path.{◌≡◌, sym, ap, subst, ◌∙◌}
use mathlib.Core.List.{List, ◌++◌, map}
use Prim.Native.Nat.{ℕ, ◌+◌, ◌*◌, ◌-◌, ◌/◌, ◌≤◌, ◌<◌}
use native.Mathlib.Omega.{arith}
use lib.ListN.{length, get_or, set, take, drop}
use borrow.Rule.Slice.PartMut.{put_mid, put_same, same_len_mid}
use Rattle.resolved_rows.specs.Cells.{row_sum, taken}
use Rattle.resolved_rows.specs.inner.Held.{cell_by, no_cell, figures, cells_of, held_line, held_span, held_rows, lines_of, spans_of, rowspans_of}
use Rattle.resolved_rows.specs.declared.Cell.{Cell}
use Rattle.resolved_rows.specs.inner.Spans.{bare, part, rows_at, Narrow, BodyHeld, RowsHeld, LargestSum, ResolveRowPost, BodyResolved}
use Rattle.resolved_rows.proofs.Figures.{length_figures, figure_at_lem, figure_set, figure_same, figures_part, figures_put}
use Rattle.resolved_rows.proofs.Filling.{fill, all_filled, filled_are, change_more, change_all}
use Rattle.resolved_rows.proofs.Bodies.{Filled, row_ends_fits, part_narrow, part_lacks, fill_row, fill_stop}
use Rattle.resolved_rows.proofs.Cutting.{Cutting, cut_turn, cut_stop}

-- ---- a row

pub record Resolving (instead left : ℕ) (cells₀ cells : List ℕ) (i : ℕ) : Type 0 where
  pub passed : i ≤ length cells₀ / 3
  pub long : length cells ≡ length cells₀
  pub same : lines_of cells ≡ lines_of cells₀
  pub filled : spans_of cells ≡ take i (map (fill instead) (spans_of cells₀)) ++ drop i (spans_of cells₀)
  pub cut : rowspans_of cells ≡ take i (map (taken left) (rowspans_of cells₀)) ++ drop i (rowspans_of cells₀)

module _ {instead left : ℕ} {cells₀ cells : List ℕ} {i : ℕ} (z : Resolving instead left cells₀ cells i) where
  pub row_turn : i < length cells / 3 → (c : Cell) → c ≡ get_or (cells_of cells) i no_cell → (v u : ℕ) → v ≡ fill instead c.span → u ≡ taken left c.rows
      → (cells' : List ℕ) → length cells' ≡ length cells → cells_of cells' ≡ set (cells_of cells) i (record { line = c.line; span = v; rows = u })
      → Resolving instead left cells₀ cells' (i + 1)
  row_turn h c q v u fv fu cells' l e =
      let new : Cell = record { line = c.line; span = v; rows = u } in
      let k : i < length cells₀ / 3 = omega (arith, z.long) in
      record {
        passed = omega arith;
        long = l ∙ z.long;
        same = figure_same 3 cell_by held_line cells cells' i new h e (ap held_line q) ∙ z.same;
        filled =
            figure_set 3 cell_by held_span cells cells' i new e
            ∙ change_more (fill instead) (spans_of cells₀) (spans_of cells) i z.filled (omega (arith, length_figures 3 cell_by held_span cells₀)) v
            (fv ∙ ap (fill instead) (ap held_span q ∙ sym (figure_at_lem 3 cell_by held_span cells i h)));
        cut =
            figure_set 3 cell_by held_rows cells cells' i new e
            ∙ change_more (taken left) (rowspans_of cells₀) (rowspans_of cells) i z.cut (omega (arith, length_figures 3 cell_by held_rows cells₀)) u
            (fu ∙ ap (taken left) (ap held_rows q ∙ sym (figure_at_lem 3 cell_by held_rows cells i h)));
      }

  pub row_stop : length cells / 3 ≤ i → ResolveRowPost instead left (lines_of cells₀) (spans_of cells₀) (rowspans_of cells₀) (lines_of cells) (spans_of cells) (rowspans_of cells)
  row_stop h =
      let k : length cells₀ / 3 ≤ i = omega (arith, z.long) in
      record {
        same = z.same;
        filled =
            change_all (fill instead) (spans_of cells₀) (spans_of cells) i z.filled (omega (arith, length_figures 3 cell_by held_span cells₀))
            ∙ filled_are instead (spans_of cells₀);
        cut = change_all (taken left) (rowspans_of cells₀) (rowspans_of cells) i z.cut (omega (arith, length_figures 3 cell_by held_rows cells₀));
      }

-- ---- the rows of a body

pub record Sofar (first : ℕ) (ends cells₀ cells : List ℕ) (most from j : ℕ) : Type 0 where
  pub long : length cells ≡ length cells₀
  pub same : lines_of cells ≡ lines_of cells₀
  pub filled : Filled first ends (spans_of cells₀) (spans_of cells) most from j
  pub cut : Cutting first ends (rowspans_of cells₀) (rowspans_of cells) from j

module _ {first : ℕ} {ends cells₀ : List ℕ} {most : ℕ} (b : BodyHeld first ends (spans_of cells₀)) (r : RowsHeld first ends (rowspans_of cells₀)) (l : LargestSum (rows_at first ends (spans_of cells₀)) most) where
  module _ {cells : List ℕ} {from j : ℕ} (z : Sofar first ends cells₀ cells most from j) where
    pub stop : length ends ≤ j → BodyResolved first ends (lines_of cells₀) (spans_of cells₀) (rowspans_of cells₀) (lines_of cells) (spans_of cells) (rowspans_of cells)
    stop h = record { same = z.same; done = record { cols = fill_stop b l z.filled h; cut = cut_stop r z.cut h } }

    module _ (h : j < length ends) (to : ℕ) (q : get_or ends j 0 ≡ to) where
      -- the row lies within the cells
      pub row_in : (from ≤ to) × (3 * to ≤ length cells)
      row_in =
          let e = row_ends_fits z.filled.along h in
          (omega (arith, e.0), omega (arith, e.1, b.held, length_figures 3 cell_by held_span cells₀, z.long))

      abbrev here : List ℕ
      here = take (3 * to - 3 * from) (drop (3 * from) cells)

      figure_here : (f : Cell → ℕ) → figures 3 cell_by f here ≡ part from (get_or ends j 0) (figures 3 cell_by f cells)
      figure_here f =
          figures_part 3 cell_by f (omega arith) from to cells row_in.0 row_in.1
          ∙ ap (λ (t : ℕ). part from t (figures 3 cell_by f cells)) (sym q)

      -- its sum is one of a few cells, and no larger than the largest
      pub here_narrow : Narrow (spans_of here)
      here_narrow = subst Narrow (sym (figure_here held_span)) (part_narrow b l z.filled h)

      pub here_lacks : row_sum (bare (spans_of here)) ≤ most
      here_lacks = subst (λ (p : List ℕ). row_sum (bare p) ≤ most) (sym (figure_here held_span)) (part_lacks b l z.filled h)

      back : (f : Cell → ℕ) (ys : List ℕ) → length ys ≡ length here
          → figures 3 cell_by f (put_mid (3 * from) (3 * to - 3 * from) cells ys) ≡ put_mid from (get_or ends j 0 - from) (figures 3 cell_by f cells) (figures 3 cell_by f ys)
      back f ys n =
          figures_put 3 cell_by f (omega arith) from to cells row_in.0 row_in.1 ys n
          ∙ ap (λ (t : ℕ). put_mid from (t - from) (figures 3 cell_by f cells) (figures 3 cell_by f ys)) (sym q)

      pub turn : (s : ℕ) → s ≡ row_sum (bare (spans_of here)) → (ys : List ℕ) → length ys ≡ length here
          → ResolveRowPost (most - s + 1) (length ends - j - 1) (lines_of here) (spans_of here) (rowspans_of here) (lines_of ys) (spans_of ys) (rowspans_of ys)
          → Sofar first ends cells₀ (put_mid (3 * from) (3 * to - 3 * from) cells ys) most to (j + 1)
      turn s e ys n d = record {
        long = same_len_mid (3 * from) (3 * to - 3 * from) cells ys n ∙ z.long;
        same =
            back held_line ys n ∙ ap (put_mid from (get_or ends j 0 - from) (lines_of cells)) (d.same ∙ figure_here held_line)
            ∙ put_same from (get_or ends j 0 - from) (lines_of cells) ∙ z.same;
        filled =
            subst (λ (t : ℕ). Filled first ends (spans_of cells₀) (spans_of (put_mid (3 * from) (3 * to - 3 * from) cells ys)) most t (j + 1)) q
            (rw (back held_span ys n)
            (fill_row b l z.filled h s (spans_of ys) (e ∙ ap (λ (p : List ℕ). row_sum (bare p)) (figure_here held_span)) (d.filled ∙ ap (all_filled (most - s + 1)) (figure_here held_span))));
        cut =
            subst (λ (t : ℕ). Cutting first ends (rowspans_of cells₀) (rowspans_of (put_mid (3 * from) (3 * to - 3 * from) cells ys)) t (j + 1)) q
            (rw (back held_rows ys n)
            (cut_turn r z.cut h (rowspans_of ys) (d.cut ∙ ap (map (taken (length ends - j - 1))) (figure_here held_rows))));
      }
