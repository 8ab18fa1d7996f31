-- The loop of `fits` on plain lists: if what the lines still to come hold is within the bound, from what hangs, the row's end and the entries on, then so is
-- the table.
use mathlib.Core.Path.{◌≡◌, sym, ap, subst, ◌∙◌}
use mathlib.Core.Bool.{cond}
use mathlib.Core.List.{List, [], ◌∷◌}
use Prim.{tt}
use Prim.Native.Nat.{ℕ, suc, ◌+◌, ◌-◌, ◌≤◌, ◌<◌}
use native.Mathlib.Numerals.{add-one}
use native.Mathlib.Omega.{arith}
use lib.Dec.{eqb}
use lib.ListN.{length, get_or, drop}
use borrow.Author.Tests.{ne_eqb}
use Rattle.common.specs.Lists.{sum}
use Rattle.common.specs.Limits.{max_position, max_entries}
use Rattle.records.specs.NodeRecord.{no_node}
use Rattle.records.specs.declared.NodeRecord.{NodeRecord}
use Rattle.resolved_rows.specs.Cells.{Row, Frame, cell, frame, no_frame, open_body, open_row, open_cell}
use Rattle.resolved_rows.specs.Listed.{table_rows}
use Rattle.resolved_rows.specs.inner.Listed.{all_cells}
use Rattle.resolved_rows.proofs.Lines.{framed, after, frame_stop, frame_body, frame_row, frame_cell, frame_deeper, inside}
use Rattle.grid.specs.Facts.{Sound}
use Rattle.grid_bounds.specs.inner.Bound.{wide_of, hung_of, rows_of, wide, hung, rows_asked, RowsBound, BodiesBound, bodies_asked, Room, HungByPost}
use Rattle.grid_bounds.proofs.Bounds.{asked_append, bound_fits}

-- h hang into the row after the open one, the open row ends at w, and there are e entries: all that comes is within the bound
pub record Rest (h w e : ℕ) (f : Frame) : Type 0 where
  pub row_fits : w + wide f.cells ≤ max_position
  pub rows_fit : RowsBound (h + hung f.cells) f.rows
  pub bodies_fit : BodiesBound f.bodies
  pub few : e + rows_asked f.cells + rows_asked (all_cells f.rows) + bodies_asked f.bodies ≤ max_entries

bound_less : (g h : ℕ) (rs : List Row) → g ≤ h → RowsBound h rs → RowsBound g rs
bound_less g h [] l b = tt
bound_less g h (r ∷ rs) l b = (omega (arith, b.0), bound_less (g + hung r.cells) (h + hung r.cells) rs (omega arith) b.1)

module _ (h w e : ℕ) (f : Frame) where
  rest_body : w ≤ max_position → Rest 0 0 e f → Rest h w e (open_body f)
  unfolding all_cells sum
  rest_body u z = record {
    row_fits = omega arith;
    rows_fit = tt;
    bodies_fit = (bound_less 0 (0 + hung f.cells) f.rows (omega arith) z.rows_fit, z.bodies_fit);
    few = omega (arith, z.few);
  }

  rest_row : (k : ℕ) → w ≤ max_position → Rest h h e f → Rest h w e (open_row k f)
  unfolding all_cells sum
  rest_row k u z = record {
    row_fits = omega arith;
    rows_fit = (omega (arith, z.row_fits), bound_less (h + 0 + hung f.cells) (h + hung f.cells) f.rows (omega arith) z.rows_fit);
    bodies_fit = z.bodies_fit;
    few = omega (arith, z.few, asked_append f.cells (all_cells f.rows));
  }

  rest_cell : (k : ℕ) (l : NodeRecord) (g : ℕ) → g ≡ cond (eqb l.rows 1) 0 l.cols → Room l.cols l.rows w e max_entries
      → Rest (h + g) (w + l.cols) (e + l.rows) f → Rest h w e (open_cell k l f)
  unfolding sum
  rest_cell k l g q r z =
      let c = cell k l.cols l.rows in
      let s : wide_of c ≡ l.cols = rw (ne_eqb l.cols 0 (λ o. omega (arith, r.some_cols, o))) in
      let t : hung_of c ≡ g = ap (cond (eqb l.rows 1) 0) s ∙ sym q in
      let v : rows_of c ≡ l.rows = rw (ne_eqb l.rows 0 (λ o. omega (arith, r.some_rows, o))) in
      record {
        row_fits = omega (arith, z.row_fits, s);
        rows_fit = bound_less (h + (hung_of c + hung f.cells)) (h + g + hung f.cells) f.rows (omega (arith, t)) z.rows_fit;
        bodies_fit = z.bodies_fit;
        few = omega (arith, z.few, v);
      }

rest_none : (h w e : ℕ) → w ≤ max_position → e ≤ max_entries → Rest h w e no_frame
unfolding all_cells sum
rest_none h w e u v = record { row_fits = omega arith; rows_fit = tt; bodies_fit = tt; few = omega arith }

-- ---- the loop

pub record Bounding (ks : List NodeRecord) (at h w e i : ℕ) : Type 0 where
  pub whole : Rest h w e (framed ks (get_or ks at no_node).depth i) → Rest 0 0 0 (framed ks (get_or ks at no_node).depth (at + 1))
  pub order : h ≤ w
  pub within : w ≤ max_position
  pub few : e ≤ max_entries
  pub place : i ≤ length ks

module _ {ks : List NodeRecord} {at h w e i : ℕ} (z : Bounding ks at h w e i) where
  abbrev d : ℕ
  d = (get_or ks at no_node).depth

  pub bound_stop : (get_or ks i no_node).depth ≤ d → Sound (table_rows ks at)
  unfolding table_rows
  bound_stop s =
      let r = z.whole (subst (Rest h w e) (sym (frame_stop ks d i s)) (rest_none h w e z.within z.few)) in
      let t = subst (λ (k : ℕ). Rest 0 0 0 (frame d k (drop (at + 1) ks))) (add-one (at + 1)) r in
      bound_fits (frame d (suc (at + 1)) (drop (at + 1) ks)).bodies t.bodies_fit (omega (arith, t.few))

  -- the line of a turn
  abbrev l : NodeRecord
  l = get_or ks i no_node

  module _ (deep : d < l.depth) where
    pub more : i < length ks
    more = inside ks i d deep

    pub bound_body : l.depth - d ≡ 1 → Bounding ks at 0 0 e (i + 1)
    bound_body b = record {
      whole = λ r. z.whole (subst (Rest h w e) (sym (frame_body ks d i deep (omega arith))) (rest_body h w e (after ks d i) z.within r));
      order = omega arith;
      within = omega arith;
      few = z.few;
      place = omega (arith, more);
    }

    pub bound_row : l.depth - d ≡ 2 → Bounding ks at h h e (i + 1)
    bound_row b = record {
      whole = λ r. z.whole (subst (Rest h w e) (sym (frame_row ks d i deep (λ o. omega (arith, o)) (omega arith))) (rest_row h w e (after ks d i) (i + 1) z.within r));
      order = omega arith;
      within = omega (arith, z.order, z.within);
      few = z.few;
      place = omega (arith, more);
    }

    pub bound_cell : l.depth - d ≡ 3 → (cols rows g : ℕ) → cols ≡ l.cols → rows ≡ l.rows → HungByPost cols rows g → Room cols rows w e max_entries
        → Bounding ks at (h + g) (w + cols) (e + rows) (i + 1)
    bound_cell b cols rows g u v =
        rw (u, v) (λ p r.
        record {
          whole = λ x. z.whole (subst (Rest h w e)
              (sym (frame_cell ks d i deep (λ o. omega (arith, o)) (λ o. omega (arith, o)) (omega arith)))
              (rest_cell h w e (after ks d i) (i + 1) l g p.is r x));
          order = omega (arith, z.order, p.small);
          within = r.within;
          few = r.few;
          place = omega (arith, more);
        })

    pub bound_deeper : (l.depth - d ≡ 3 → ⊥) → (l.depth - d ≡ 2 → ⊥) → (l.depth - d ≡ 1 → ⊥) → Bounding ks at h w e (i + 1)
    bound_deeper a b c = record {
      whole = λ r. z.whole (subst (Rest h w e)
          (sym (frame_deeper ks d i deep (λ o. c (omega (arith, o))) (λ o. b (omega (arith, o))) (λ o. a (omega (arith, o))))) r);
      order = z.order;
      within = z.within;
      few = z.few;
      place = omega (arith, more);
    }
