-- Rows written over the front of the slices: a row more, a cell more in the last row, the last body resolved.
use mathlib.Core.Path.{◌≡◌, refl, sym, ap, ap₂, subst, ◌∙◌}
use mathlib.Core.List.{List, [], ◌∷◌, ◌++◌, map, map-append, append_assoc, append-nil}
use Prim.Native.Nat.{ℕ, ◌+◌, ◌-◌, ◌≤◌, ◌<◌}
use native.Mathlib.Omega.{arith}
use lib.ListN.{length, get_or, take, drop, set, length-append, length-map, length-set}
use lib.Seq.{take_at, drop_at, drop-drop, set-append_left}
use Rattle.common.specs.Limits.{max_lines, max_cols}
use Rattle.common.specs.inner.Lists.{over}
use Rattle.common.proofs.Sum.{map_snoc}
use Rattle.common.proofs.Over.{over_push}
use Rattle.resolved_rows.specs.Cells.{Cell, Row, row, fill_body, resolve_body}
use Rattle.resolved_rows.specs.inner.Listed.{cell_line, cell_cols, cell_rows, written_line, all_cells, cell_ends, ListsRows}
use Rattle.resolved_rows.specs.inner.Spans.{part, rows_at, last_end, Rising, BodyHeld, RowsHeld, cut_at, BodyDone}
use Rattle.resolved_rows.proofs.Rows.{cells_append, ends_after, length_ends, rising_ends, last_ends, extend, cells_extend, lines_extend, ends_extend, kept_body, row_lines_body, ends_body, cells_body, resolved_read, cut_read}

-- a figure inside what is written
over_set : (d o : List ℕ) (i v : ℕ) → i < length d → over (set d i v) o ≡ set (over d o) i v
unfolding over
over_set d o i v h = ap (λ (k : ℕ). set d i v ++ drop k o) (length-set d i v) ∙ sym (set-append_left d (drop (length d) o) i v h)

module _ {rs : List Row} {line₀ span₀ rows₀ row₀ end₀ line span rows row' end : List ℕ} (w : ListsRows rs line₀ span₀ rows₀ row₀ end₀ line span rows row' end) where
  -- a row without cells more
  pub written_row : (k : ℕ) → length rs < length row₀ → length rs < length end₀
      → ListsRows (rs ++ (row k [] ∷ [])) line₀ span₀ rows₀ row₀ end₀ line span rows (set row' (length rs) k) (set end (length rs) (length (all_cells rs)))
  unfolding all_cells cell_ends
  written_row k h g =
      let c : all_cells rs ≡ all_cells (rs ++ (row k [] ∷ [])) = sym (cells_append rs (row k [] ∷ []) ∙ append-nil (all_cells rs)) in
      let e : cell_ends 0 (rs ++ (row k [] ∷ [])) ≡ cell_ends 0 rs ++ (length (all_cells rs) ∷ []) =
      ends_after rs (row k [] ∷ []) ∙ ap (λ (n : ℕ). cell_ends 0 rs ++ (n ∷ [])) (omega arith) in
      record {
        lines = w.lines ∙ ap (λ (l : List Cell). over (map cell_line l) line₀) c;
        spans = w.spans ∙ ap (λ (l : List Cell). over (map cell_cols l) span₀) c;
        rowspans = w.rowspans ∙ ap (λ (l : List Cell). over (map cell_rows l) rows₀) c;
        row_lines =
            ap₂ (λ (l : List ℕ) (n : ℕ). set l n k) w.row_lines (sym (length-map rs written_line))
            ∙ sym (over_push (map written_line rs) row₀ k (omega (arith, length-map rs written_line)))
            ∙ ap (λ (l : List ℕ). over l row₀) (sym (map_snoc written_line rs (row k [])));
        ends =
            ap₂ (λ (l : List ℕ) (n : ℕ). set l n (length (all_cells rs))) w.ends (sym (length_ends 0 rs))
            ∙ sym (over_push (cell_ends 0 rs) end₀ (length (all_cells rs)) (omega (arith, length_ends 0 rs)))
            ∙ ap (λ (l : List ℕ). over l end₀) (sym e);
      }

  -- a figure of one cell more
  put : (f : Cell → ℕ) (b₀ b : List ℕ) (c : Cell) → 0 < length rs → length (all_cells rs) < length b₀ → b ≡ over (map f (all_cells rs)) b₀
      → set b (length (all_cells rs)) (f c) ≡ over (map f (all_cells (extend rs (c ∷ [])))) b₀
  put f b₀ b c h g e =
      ap₂ (λ (l : List ℕ) (n : ℕ). set l n (f c)) e (sym (length-map (all_cells rs) f))
      ∙ sym (over_push (map f (all_cells rs)) b₀ (f c) (omega (arith, length-map (all_cells rs) f)))
      ∙ ap (λ (l : List ℕ). over l b₀) (sym (map_snoc f (all_cells rs) c))
      ∙ ap (λ (l : List Cell). over (map f l) b₀) (sym (cells_extend rs (c ∷ []) h))

  -- a cell more in the last row
  pub written_cell : (c : Cell) → 0 < length rs → length (all_cells rs) < length line₀ → length (all_cells rs) < length span₀ → length (all_cells rs) < length rows₀
      → ListsRows (extend rs (c ∷ [])) line₀ span₀ rows₀ row₀ end₀ (set line (length (all_cells rs)) c.line) (set span (length (all_cells rs)) c.cols)
      (set rows (length (all_cells rs)) c.rows) row' (set end (length rs - 1) (length (all_cells rs) + 1))
  written_cell c h p q s = record {
    lines = put cell_line line₀ line c h p w.lines;
    spans = put cell_cols span₀ span c h q w.spans;
    rowspans = put cell_rows rows₀ rows c h s w.rowspans;
    row_lines = w.row_lines ∙ ap (λ (l : List ℕ). over l row₀) (sym (lines_extend rs (c ∷ [])));
    ends =
        ap (λ (l : List ℕ). set l (length rs - 1) (length (all_cells rs) + 1)) w.ends
        ∙ sym (over_set (cell_ends 0 rs) end₀ (length rs - 1) (length (all_cells rs) + 1) (omega (arith, length_ends 0 rs)))
        ∙ ap (λ (l : List ℕ). over l end₀) (sym (ends_extend 0 (length rs - 1) rs c (omega arith) ∙ ap (set (cell_ends 0 rs) (length rs - 1)) (omega arith)));
  }

-- the rows of the last body, after those of the bodies before it
module _ (done last : List Row) {line₀ span₀ rows₀ row₀ end₀ line span rows row' end : List ℕ} (w : ListsRows (done ++ last) line₀ span₀ rows₀ row₀ end₀ line span rows row' end) where
  abbrev first : ℕ
  first = length (all_cells done)

  pub same_cells : length (all_cells (done ++ resolve_body last)) ≡ first + length (all_cells last)
  same_cells =
      ap length (cells_append done (resolve_body last)) ∙ length-append (all_cells done) (all_cells (resolve_body last))
      ∙ ap (λ (n : ℕ). first + n) (cells_body last)

  -- a figure of each cell
  module _ (f : Cell → ℕ) (b₀ b : List ℕ) (e : b ≡ over (map f (all_cells (done ++ last))) b₀) where
    rest : List ℕ
    rest = drop (first + length (all_cells last)) b₀

    held_is : b ≡ map f (all_cells done) ++ (map f (all_cells last) ++ rest)
    unfolding over rest
    held_is =
        let s : map f (all_cells (done ++ last)) ≡ map f (all_cells done) ++ map f (all_cells last) = ap (map f) (cells_append done last) ∙ map-append f (all_cells done) (all_cells last) in
        let n : length (map f (all_cells (done ++ last))) ≡ first + length (all_cells last) =
        length-map (all_cells (done ++ last)) f ∙ ap length (cells_append done last) ∙ length-append (all_cells done) (all_cells last) in
        e ∙ ap₂ (λ (l : List ℕ) (k : ℕ). l ++ drop k b₀) s n ∙ append_assoc (map f (all_cells done)) (map f (all_cells last)) (drop (first + length (all_cells last)) b₀)

    front : take first b ≡ map f (all_cells done)
    front = ap (take first) held_is ∙ take_at (map f (all_cells done)) (map f (all_cells last) ++ rest) first (length-map (all_cells done) f)

    here : drop first b ≡ map f (all_cells last) ++ rest
    here = ap (drop first) held_is ∙ drop_at (map f (all_cells done)) (map f (all_cells last) ++ rest) first (length-map (all_cells done) f)

    -- the figures of the last body's cells, resolved, in their place
    back : (m : List ℕ) → m ≡ map f (all_cells (resolve_body last))
        → (take first b ++ m) ++ drop (last_end first (cell_ends first last)) b ≡ over (map f (all_cells (done ++ resolve_body last))) b₀
    unfolding over rest
    back m q =
        let d : drop (last_end first (cell_ends first last)) b ≡ rest =
        ap (λ (k : ℕ). drop k b) (last_ends first last) ∙ sym (drop-drop (length (all_cells last)) first b) ∙ ap (drop (length (all_cells last))) here
        ∙ drop_at (map f (all_cells last)) rest (length (all_cells last)) (length-map (all_cells last) f) in
        ap₂ (λ (a e : List ℕ). (a ++ m) ++ e) front d
        ∙ ap (λ (l : List ℕ). (map f (all_cells done) ++ l) ++ rest) q
        ∙ ap₂ (λ (l : List ℕ) (k : ℕ). l ++ drop k b₀)
        (sym (ap (map f) (cells_append done (resolve_body last)) ∙ map-append f (all_cells done) (all_cells (resolve_body last))))
        (sym (length-map (all_cells (done ++ resolve_body last)) f ∙ same_cells))

  ends_here : part (length done) (length (done ++ last)) end ≡ cell_ends first last
  unfolding over
  ends_here =
      let n : length (done ++ last) - length done ≡ length last = omega (arith, length-append done last) in
      let o = drop (length (cell_ends 0 (done ++ last))) end₀ in
      let d : drop (length done) end ≡ cell_ends first last ++ o =
      ap (drop (length done)) (w.ends ∙ ap (λ (l : List ℕ). l ++ o) (ends_after done last) ∙ append_assoc (cell_ends 0 done) (cell_ends first last) o)
      ∙ drop_at (cell_ends 0 done) (cell_ends first last ++ o) (length done) (length_ends 0 done) in
      ap₂ (λ (k : ℕ) (l : List ℕ). take k l) n d ∙ take_at (cell_ends first last) o (length last) (length_ends first last)

  ends_last : last_end first (part (length done) (length (done ++ last)) end) ≡ length (all_cells (done ++ last))
  ends_last = ap (last_end first) ends_here ∙ last_ends first last ∙ sym (ap length (cells_append done last) ∙ length-append (all_cells done) (all_cells last))

  pub last_held : length (all_cells (done ++ last)) ≤ max_lines → length (all_cells (done ++ last)) ≤ length span
      → ((k : ℕ) → first ≤ k → k < length (all_cells (done ++ last)) → get_or span k 0 ≤ max_cols)
      → BodyHeld first (part (length done) (length (done ++ last)) end) span
  last_held h g s = record {
    rising = subst (Rising first) (sym ends_here) (rising_ends first last);
    few = omega (arith, ends_last);
    held = omega (arith, ends_last);
    narrow = λ k a b. s k a (omega (arith, ends_last));
  }

  pub last_rows_held : length (done ++ last) ≤ max_lines → length (all_cells (done ++ last)) ≤ max_lines → length (all_cells (done ++ last)) ≤ length rows
      → RowsHeld first (part (length done) (length (done ++ last)) end) rows
  last_rows_held k h g = record {
    rising = subst (Rising first) (sym ends_here) (rising_ends first last);
    short = omega (arith, ap length ends_here, length_ends first last, length-append done last);
    few = omega (arith, ends_last);
    held = omega (arith, ends_last);
  }

  same_figures : map cell_line (all_cells (done ++ resolve_body last)) ≡ map cell_line (all_cells (done ++ last))
  same_figures =
      ap (map cell_line) (cells_append done (resolve_body last)) ∙ map-append cell_line (all_cells done) (all_cells (resolve_body last))
      ∙ ap (λ (l : List ℕ). map cell_line (all_cells done) ++ l) (kept_body cell_line (λ x c. refl) (λ x c. refl) last)
      ∙ sym (ap (map cell_line) (cells_append done last) ∙ map-append cell_line (all_cells done) (all_cells last))

  same_lines : map written_line (done ++ resolve_body last) ≡ map written_line (done ++ last)
  same_lines =
      map-append written_line done (resolve_body last) ∙ ap (λ (l : List ℕ). map written_line done ++ l) (row_lines_body last)
      ∙ sym (map-append written_line done last)

  same_ends : cell_ends 0 (done ++ resolve_body last) ≡ cell_ends 0 (done ++ last)
  same_ends =
      ends_after done (resolve_body last) ∙ ap (λ (l : List ℕ). cell_ends 0 done ++ l) (ends_body first last)
      ∙ sym (ends_after done last)

  pub last_resolved : (span' rows' : List ℕ) → BodyDone first (part (length done) (length (done ++ last)) end) span rows span' rows'
      → ListsRows (done ++ resolve_body last) line₀ span₀ rows₀ row₀ end₀ line span' rows' row' end
  last_resolved span' rows' b = record {
    lines = w.lines ∙ ap (λ (l : List ℕ). over l line₀) (sym same_figures);
    spans =
        b.cols.spans ∙ ap (λ (l : List ℕ). (take first span ++ map cell_cols (all_cells (fill_body (rows_at first l span)))) ++ drop (last_end first l) span) ends_here
        ∙ back cell_cols span₀ span w.spans _ (resolved_read first last span _ (here cell_cols span₀ span w.spans));
    rowspans =
        b.cut.rows ∙ ap (λ (l : List ℕ). (take first rows ++ cut_at first l rows) ++ drop (last_end first l) rows) ends_here
        ∙ back cell_rows rows₀ rows w.rowspans _ (cut_read first last rows _ (here cell_rows rows₀ rows w.rowspans));
    row_lines = w.row_lines ∙ ap (λ (l : List ℕ). over l row₀) (sym same_lines);
    ends = w.ends ∙ ap (λ (l : List ℕ). over l end₀) (sym same_ends);
  }
