-- The loop of `list_rows` on plain lists: the rows of the bodies that are done, resolved, and the rows of the last body, as they are written;
-- with what the lines still to come add to them they are the table's rows.
use mathlib.Core.Path.{◌≡◌, refl, sym, ap, subst, ◌∙◌}
use mathlib.Core.List.{List, [], ◌∷◌, ◌++◌, append_assoc, append-nil}
use Prim.Native.Nat.{ℕ, ◌+◌, ◌-◌, ◌≤◌, ◌<◌}
use native.Mathlib.Decide.{dec_lt, ℕ_discrete}
use native.Mathlib.Numerals.{add-one}
use native.Mathlib.Omega.{arith}
use lib.ListN.{length, get_or, set, drop, length-append, length-set, get_or-eq_default}
use lib.Seq.{get_or-set_same, get_or-set_other}
use Rattle.common.specs.Limits.{max_lines, max_depth, max_cols}
use Rattle.common.proofs.Over.{over_none}
use Rattle.records.specs.NodeRecord.{no_node}
use Rattle.records.specs.declared.NodeRecord.{NodeRecord}
use Rattle.resolved_rows.specs.Cells.{Cell, Row, Frame, cell, row, no_frame, open_body, open_row, frame, fill_body, cut_body, resolve_body, resolved}
use Rattle.resolved_rows.specs.Listed.{table_rows}
use Rattle.resolved_rows.specs.inner.Listed.{all_cells, cell_ends, ListsRows, ListRowsPre, ListRowsPost}
use Rattle.resolved_rows.specs.inner.Spans.{part, BodyHeld, RowsHeld, BodyDone}
use Rattle.resolved_rows.proofs.Rows.{cells_append, extend, extend_none, extend_extend, extend_append, length_extend, cells_extend, length_body}
use Rattle.resolved_rows.proofs.Written.{written_row, written_cell, last_held, last_rows_held, last_resolved, same_cells}
use Rattle.resolved_rows.proofs.Lines.{framed, after, frame_stop, frame_body, frame_row, frame_cell, frame_deeper, frame_first, inside}

-- ---- what the rows of the last body become, with what the lines still to come hold

abbrev pub rest : List Row → Frame → List Row
rest last f = resolve_body (extend last f.cells ++ f.rows) ++ resolved f.bodies

whole_last : (last : List Row) → extend last [] ++ [] ≡ last
whole_last last = append-nil (extend last []) ∙ extend_none last

rest_stop : (last : List Row) → rest last no_frame ≡ resolve_body last
unfolding resolved
rest_stop last = append-nil (resolve_body (extend last [] ++ [])) ∙ ap resolve_body (whole_last last)

rest_body : (last : List Row) (f : Frame) → rest last (open_body f) ≡ resolve_body last ++ rest [] f
unfolding resolved
rest_body last f = ap (λ (l : List Row). resolve_body l ++ rest [] f) (whole_last last)

rest_row : (last : List Row) (k : ℕ) (f : Frame) → rest last (open_row k f) ≡ rest (last ++ (row k [] ∷ [])) f
rest_row last k f =
    let e : extend last [] ++ (row k f.cells ∷ f.rows) ≡ extend (last ++ (row k [] ∷ [])) f.cells ++ f.rows =
    ap (λ (l : List Row). l ++ (row k f.cells ∷ f.rows)) (extend_none last)
    ∙ sym (ap (λ (l : List Row). l ++ f.rows) (extend_append last (row k [] ∷ []) f.cells (omega arith)) ∙ append_assoc last (row k f.cells ∷ []) f.rows) in
    ap (λ (l : List Row). resolve_body l ++ resolved f.bodies) e

rest_cell : (last : List Row) (c : Cell) (f : Frame)
    → rest last (record { cells = c ∷ f.cells; rows = f.rows; bodies = f.bodies }) ≡ rest (extend last (c ∷ [])) f
rest_cell last c f = ap (λ (l : List Row). resolve_body (l ++ f.rows) ++ resolved f.bodies) (sym (extend_extend last (c ∷ []) f.cells))

-- ---- the loop

pub record Listing (ks : List NodeRecord) (at : ℕ) (line₀ span₀ rows₀ row₀ end₀ line span rows row' end : List ℕ) (n r first_cell first_row i : ℕ) : Type 0 where
  pub done : List Row
  pub last : List Row
  pub whole : done ++ rest last (framed ks (get_or ks at no_node).depth i) ≡ table_rows ks at
  pub written : ListsRows (done ++ last) line₀ span₀ rows₀ row₀ end₀ line span rows row' end
  pub cells_are : n ≡ length (all_cells (done ++ last))
  pub rows_are : r ≡ length (done ++ last)
  pub first_cell_is : first_cell ≡ length (all_cells done)
  pub first_row_is : first_row ≡ length done
  pub order : first_row ≤ r
  pub few : n + r + (at + 1) ≤ i
  pub within : i ≤ length ks
  -- where the last body has no row yet, no cell comes next
  pub fresh : first_row ≡ r → (get_or ks i no_node).depth ≤ (get_or ks at no_node).depth + 2
  pub narrow : (k : ℕ) → first_cell ≤ k → k < n → get_or span k 0 ≤ max_cols
  pub same_line : length line ≡ length line₀
  pub same_span : length span ≡ length span₀
  pub same_rows : length rows ≡ length rows₀
  pub same_row : length row' ≡ length row₀
  pub same_end : length end ≡ length end₀

-- what a turn at the place i may use: the line, and a place for one row and one cell more
pub record Room (ks : List NodeRecord) (at : ℕ) (line span rows row' end : List ℕ) (n r first_row i : ℕ) : Type 0 where
  pub more : i < length ks
  pub short : length ks ≤ max_lines
  pub shallow : (get_or ks at no_node).depth ≤ max_depth
  pub few : n + r + at < i
  pub order : first_row ≤ r
  pub line_capacity : length ks ≤ at + length line
  pub span_capacity : length ks ≤ at + length span
  pub rows_capacity : length ks ≤ at + length rows
  pub row_capacity : length ks ≤ at + length row'
  pub end_capacity : length ks ≤ at + length end

-- a line is at most one deeper than the one before it, also where there is none
pub step_on : (ks : List NodeRecord) → ((k : ℕ) → k + 1 < length ks → (get_or ks (k + 1) no_node).depth ≤ (get_or ks k no_node).depth + 1) → (k : ℕ) → (get_or ks (k + 1) no_node).depth ≤ (get_or ks k no_node).depth + 1
step_on ks h k = at (dec_lt (k + 1) (length ks))
  where
    at : Dec (k + 1 < length ks) → (get_or ks (k + 1) no_node).depth ≤ (get_or ks k no_node).depth + 1
    at (yes g) = h k g
    at (no g) = rw (get_or-eq_default ks no_node {n = k + 1} (omega arith)) (omega arith)

module _ {ks : List NodeRecord} {at : ℕ} {line₀ span₀ rows₀ row₀ end₀ : List ℕ} (t : ListRowsPre ks at line₀ span₀ rows₀ row₀ end₀) where
  abbrev d : ℕ
  d = (get_or ks at no_node).depth

  pub list_start : Listing ks at line₀ span₀ rows₀ row₀ end₀ line₀ span₀ rows₀ row₀ end₀ 0 0 0 0 (at + 1)
  unfolding all_cells cell_ends table_rows resolve_body fill_body cut_body
  list_start = record {
    done = [];
    last = [];
    whole =
        ap (λ (l : List Row). resolve_body l ++ resolved (framed ks d (at + 1)).bodies) (frame_first ks d (at + 1) (step_on ks t.step at))
        ∙ ap (λ (k : ℕ). resolved (frame d k (drop (at + 1) ks)).bodies) (add-one (at + 1));
    written = record {
      lines = sym (over_none line₀);
      spans = sym (over_none span₀);
      rowspans = sym (over_none rows₀);
      row_lines = sym (over_none row₀);
      ends = sym (over_none end₀);
    };
    cells_are = refl;
    rows_are = refl;
    first_cell_is = refl;
    first_row_is = refl;
    order = omega arith;
    few = omega arith;
    within = omega (arith, t.within);
    fresh = λ e. omega (arith, step_on ks t.step at);
    narrow = λ k a b. absurd (omega arith);
    same_line = refl;
    same_span = refl;
    same_rows = refl;
    same_row = refl;
    same_end = refl;
  }

  module _ {line span rows row' end : List ℕ} {n r fc fr i : ℕ} (z : Listing ks at line₀ span₀ rows₀ row₀ end₀ line span rows row' end n r fc fr i) where
    pub body_held : BodyHeld fc (part fr r end) span
    body_held =
        rw (z.first_cell_is, z.first_row_is, z.rows_are)
        (last_held z.done z.last z.written
        (omega (arith, z.cells_are, z.few, z.within, t.short))
        (omega (arith, z.cells_are, z.few, z.within, t.span_capacity, z.same_span))
        (λ k a b. z.narrow k (omega (arith, z.first_cell_is)) (omega (arith, z.cells_are))))

    pub body_rows : RowsHeld fc (part fr r end) rows
    body_rows =
        rw (z.first_cell_is, z.first_row_is, z.rows_are)
        (last_rows_held z.done z.last z.written
        (omega (arith, z.rows_are, z.few, z.within, t.short))
        (omega (arith, z.cells_are, z.few, z.within, t.short))
        (omega (arith, z.cells_are, z.few, z.within, t.rows_capacity, z.same_rows)))

    body_done : (span' rows' : List ℕ) → BodyDone fc (part fr r end) span rows span' rows'
        → ListsRows (z.done ++ resolve_body z.last) line₀ span₀ rows₀ row₀ end₀ line span' rows' row' end
    body_done span' rows' b =
        last_resolved z.done z.last z.written span' rows'
        (rw (z.first_cell_is, z.first_row_is, z.rows_are) at b)

    cells_done : n ≡ length (all_cells (z.done ++ resolve_body z.last))
    cells_done =
        z.cells_are ∙ ap length (cells_append z.done z.last) ∙ length-append (all_cells z.done) (all_cells z.last)
        ∙ sym (same_cells z.done z.last z.written)

    rows_done : r ≡ length (z.done ++ resolve_body z.last)
    rows_done =
        z.rows_are ∙ length-append z.done z.last
        ∙ sym (length-append z.done (resolve_body z.last) ∙ ap (λ (k : ℕ). length z.done + k) (length_body z.last))

    pub list_stop : (get_or ks i no_node).depth ≤ d → (span' rows' : List ℕ) → BodyDone fc (part fr r end) span rows span' rows'
        → ListRowsPost (table_rows ks at) line₀ span₀ rows₀ row₀ end₀ line span' rows' row' end n r
    list_stop h span' rows' b =
        let e : z.done ++ resolve_body z.last ≡ table_rows ks at =
        ap (λ (l : List Row). z.done ++ l) (sym (rest_stop z.last)) ∙ ap (λ (f : Frame). z.done ++ rest z.last f) (sym (frame_stop ks d i h)) ∙ z.whole in
        record {
          written = subst (λ (l : List Row). ListsRows l line₀ span₀ rows₀ row₀ end₀ line span' rows' row' end) e (body_done span' rows' b);
          cells_are = cells_done ∙ ap (λ (l : List Row). length (all_cells l)) e;
          rows_are = rows_done ∙ ap length e;
        }

    module _ (h : d < (get_or ks i no_node).depth) where
      more : i < length ks
      more = inside ks i d h

      pub list_capacity : Room ks at line span rows row' end n r fr i
      list_capacity = record {
        more = more;
        short = t.short;
        shallow = t.shallow;
        few = omega (arith, z.few);
        order = z.order;
        line_capacity = omega (arith, t.line_capacity, z.same_line);
        span_capacity = omega (arith, t.span_capacity, z.same_span);
        rows_capacity = omega (arith, t.rows_capacity, z.same_rows);
        row_capacity = omega (arith, t.row_capacity, z.same_row);
        end_capacity = omega (arith, t.end_capacity, z.same_end);
      }

      pub list_body : (get_or ks i no_node).depth ≡ d + 1 → (span' rows' : List ℕ) → length span' ≡ length span → length rows' ≡ length rows
          → BodyDone fc (part fr r end) span rows span' rows'
          → Listing ks at line₀ span₀ rows₀ row₀ end₀ line span' rows' row' end n r n r (i + 1)
      list_body e span' rows' s s₂ b =
          let D = z.done ++ resolve_body z.last in
          let a : D ++ [] ≡ D = append-nil D in
          record {
            done = D;
            last = [];
            whole =
                append_assoc z.done (resolve_body z.last) (rest [] (after ks d i))
                ∙ ap (λ (l : List Row). z.done ++ l) (sym (ap (rest z.last) (frame_body ks d i h e) ∙ rest_body z.last (after ks d i)))
                ∙ z.whole;
            written = subst (λ (l : List Row). ListsRows l line₀ span₀ rows₀ row₀ end₀ line span' rows' row' end) (sym a) (body_done span' rows' b);
            cells_are = cells_done ∙ ap (λ (l : List Row). length (all_cells l)) (sym a);
            rows_are = rows_done ∙ ap length (sym a);
            first_cell_is = cells_done;
            first_row_is = rows_done;
            order = omega arith;
            few = omega (arith, z.few);
            within = omega (arith, more);
            fresh = λ q. omega (arith, step_on ks t.step i, e);
            narrow = λ k p q. absurd (omega arith);
            same_line = z.same_line;
            same_span = s ∙ z.same_span;
            same_rows = s₂ ∙ z.same_rows;
            same_row = z.same_row;
            same_end = z.same_end;
          }

      module _ (nb : (get_or ks i no_node).depth ≡ d + 1 → ⊥) where
        pub list_row : (get_or ks i no_node).depth ≡ d + 2
            → Listing ks at line₀ span₀ rows₀ row₀ end₀ line span rows (set row' r (i + 1)) (set end r n) n (r + 1) fc fr (i + 1)
        unfolding all_cells
        list_row e =
            let new = row (i + 1) [] ∷ [] in
            let a : (z.done ++ z.last) ++ new ≡ z.done ++ (z.last ++ new) = append_assoc z.done z.last new in
            let w : ListsRows ((z.done ++ z.last) ++ new) line₀ span₀ rows₀ row₀ end₀ line span rows (set row' r (i + 1)) (set end r n) =
            rw (z.rows_are, z.cells_are)
            (written_row z.written (i + 1)
            (omega (arith, z.rows_are, z.few, more, t.row_capacity)) (omega (arith, z.rows_are, z.few, more, t.end_capacity))) in
            record {
              done = z.done;
              last = z.last ++ new;
              whole =
                  ap (λ (l : List Row). z.done ++ l)
                  (sym (ap (rest z.last) (frame_row ks d i h nb e) ∙ rest_row z.last (i + 1) (after ks d i)))
                  ∙ z.whole;
              written = subst (λ (l : List Row). ListsRows l line₀ span₀ rows₀ row₀ end₀ line span rows (set row' r (i + 1)) (set end r n)) a w;
              cells_are =
                  z.cells_are ∙ ap length (sym (cells_append (z.done ++ z.last) new ∙ append-nil (all_cells (z.done ++ z.last))))
                  ∙ ap (λ (l : List Row). length (all_cells l)) a;
              rows_are = omega (arith, z.rows_are, length-append (z.done ++ z.last) new, ap length a);
              first_cell_is = z.first_cell_is;
              first_row_is = z.first_row_is;
              order = omega (arith, z.order);
              few = omega (arith, z.few);
              within = omega (arith, more);
              fresh = λ q. absurd (omega (arith, z.order));
              narrow = z.narrow;
              same_line = z.same_line;
              same_span = z.same_span;
              same_rows = z.same_rows;
              same_row = length-set row' r (i + 1) ∙ z.same_row;
              same_end = length-set end r n ∙ z.same_end;
            }

        module _ (nr : (get_or ks i no_node).depth ≡ d + 2 → ⊥) where
          -- the last body has a row
          pub some_row : fr < r
          some_row = has (ℕ_discrete fr r)
            where
              has : Dec (fr ≡ r) → fr < r
              has (yes q) = absurd (omega (arith, z.fresh q, h, nb, nr))
              has (no q) = omega (arith, z.order)

          some_last : 0 < length z.last
          some_last = omega (arith, some_row, z.rows_are, z.first_row_is, length-append z.done z.last)

          pub list_cell : (get_or ks i no_node).depth ≡ d + 3
              → Listing ks at line₀ span₀ rows₀ row₀ end₀ (set line n (i + 1)) (set span n (get_or ks i no_node).cols) (set rows n (get_or ks i no_node).rows) row' (set end (r - 1) (n + 1)) (n + 1) r fc fr (i + 1)
          list_cell e =
              let c = cell (i + 1) (get_or ks i no_node).cols (get_or ks i no_node).rows in
              let a : extend (z.done ++ z.last) (c ∷ []) ≡ z.done ++ extend z.last (c ∷ []) = extend_append z.done z.last (c ∷ []) some_last in
              let s : 0 < length (z.done ++ z.last) = omega (arith, some_row, z.rows_are) in
              let w : ListsRows (extend (z.done ++ z.last) (c ∷ [])) line₀ span₀ rows₀ row₀ end₀ (set line n (i + 1)) (set span n (get_or ks i no_node).cols) (set rows n (get_or ks i no_node).rows) row' (set end (r - 1) (n + 1)) =
              rw (z.rows_are, z.cells_are)
              (written_cell z.written c s
              (omega (arith, z.cells_are, z.few, more, t.line_capacity)) (omega (arith, z.cells_are, z.few, more, t.span_capacity)) (omega (arith, z.cells_are, z.few, more, t.rows_capacity))) in
              record {
                done = z.done;
                last = extend z.last (c ∷ []);
                whole =
                    ap (λ (l : List Row). z.done ++ l)
                    (sym (ap (rest z.last) (frame_cell ks d i h nb nr e) ∙ rest_cell z.last c (after ks d i)))
                    ∙ z.whole;
                written = subst (λ (l : List Row). ListsRows l line₀ span₀ rows₀ row₀ end₀ (set line n (i + 1)) (set span n (get_or ks i no_node).cols) (set rows n (get_or ks i no_node).rows) row' (set end (r - 1) (n + 1))) a w;
                cells_are = omega (arith, z.cells_are, length-append (all_cells (z.done ++ z.last)) (c ∷ []), ap length (cells_extend (z.done ++ z.last) (c ∷ []) s), ap (λ (l : List Row). length (all_cells l)) a);
                rows_are = omega (arith, z.rows_are, length_extend (z.done ++ z.last) (c ∷ []), ap length a);
                first_cell_is = z.first_cell_is;
                first_row_is = z.first_row_is;
                order = z.order;
                few = omega (arith, z.few);
                within = omega (arith, more);
                fresh = λ q. absurd (omega (arith, some_row));
                narrow = λ k p q. narrow_more k p q (ℕ_discrete k n);
                same_line = length-set line n (i + 1) ∙ z.same_line;
                same_span = length-set span n (get_or ks i no_node).cols ∙ z.same_span;
                same_rows = length-set rows n (get_or ks i no_node).rows ∙ z.same_rows;
                same_row = z.same_row;
                same_end = length-set end (r - 1) (n + 1) ∙ z.same_end;
              }
            where
              narrow_more : (k : ℕ) → fc ≤ k → k < n + 1 → Dec (k ≡ n) → get_or (set span n (get_or ks i no_node).cols) k 0 ≤ max_cols
              narrow_more k p q (yes u) =
                  rw (u, get_or-set_same span n (get_or ks i no_node).cols 0 (omega (arith, z.few, more, t.span_capacity, z.same_span))) (t.narrow i)
              narrow_more k p q (no u) = rw (get_or-set_other span n k (get_or ks i no_node).cols 0 u) (z.narrow k p (omega arith))

          pub list_deeper : ((get_or ks i no_node).depth ≡ d + 3 → ⊥) → Listing ks at line₀ span₀ rows₀ row₀ end₀ line span rows row' end n r fc fr (i + 1)
          list_deeper e = record {
            done = z.done;
            last = z.last;
            whole = ap (λ (f : Frame). z.done ++ rest z.last f) (sym (frame_deeper ks d i h nb nr e)) ∙ z.whole;
            written = z.written;
            cells_are = z.cells_are;
            rows_are = z.rows_are;
            first_cell_is = z.first_cell_is;
            first_row_is = z.first_row_is;
            order = z.order;
            few = omega (arith, z.few);
            within = omega (arith, more);
            fresh = λ q. absurd (omega (arith, some_row));
            narrow = z.narrow;
            same_line = z.same_line;
            same_span = z.same_span;
            same_rows = z.same_rows;
            same_row = z.same_row;
            same_end = z.same_end;
          }
