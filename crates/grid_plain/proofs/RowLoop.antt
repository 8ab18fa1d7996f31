-- The loop of `try_row` on plain lists: the cells so far are plain, and with those of the lines still to come they are the row's; their entries stand after
-- those before.
use mathlib.Core.Path.{◌≡◌, refl, sym, ap, subst, ◌∙◌}
use mathlib.Core.Bool.{true, false, ◌&&◌}
use mathlib.Core.List.{List, [], ◌∷◌, ◌++◌, map, append_assoc, append-nil}
use Prim.{tt}
use Prim.Native.Nat.{ℕ, suc, ◌+◌, ◌≤◌, ◌<◌}
use native.Mathlib.Decide.{dec_lt, ℕ_discrete}
use native.Mathlib.Omega.{arith}
use lib.ListN.{length, get_or, set, take, length-append, length-set}
use lib.Dec.{eqb}
use lib.Seq.{take-suc-set}
use borrow.Author.Tests.{eqb-true}
use Rattle.common.proofs.Tests.{both}
use Rattle.common.specs.Lists.{All}
use Rattle.common.specs.Limits.{max_entries}
use Rattle.common.proofs.All.{all_append}
use Rattle.common.proofs.Sum.{map_snoc}
use Rattle.records.specs.NodeRecord.{no_node}
use Rattle.records.specs.declared.NodeRecord.{NodeRecord}
use Rattle.records.specs.declared.Entry.{Entry}
use Rattle.resolved_rows.specs.Cells.{Cell, Frame, cell, open_cell}
use Rattle.resolved_rows.proofs.Lines.{frame_stop, frame_body, frame_row, frame_cell, frame_deeper, inside}
use Rattle.grid.specs.Grid as grid
use Rattle.grid_build.specs.inner.Records.{entry, shown}
use Rattle.grid_plain.specs.declared.RowCells.{RowCells}
use Rattle.std.specs.Prelude.{Some}
use Rattle.grid_plain.specs.inner.Plain.{Plain, plain_entries}
use Rattle.grid_plain.specs.inner.Walking.{lines_from, cells_from, TryRowPre, RowDone, TryRowPost}

-- ---- a test's outcome

pub both_one : (a b : ℕ) → (eqb a 1 && eqb b 1) ≡ true → (a ≡ 1) × (b ≡ 1)
both_one a b h = let w = both (eqb a 1) (eqb b 1) h in (eqb-true a 1 w.0, eqb-true b 1 w.1)

-- ---- entries

-- one more cell
entries_more : (k : ℕ) (cs : List Cell) (c : Cell) → plain_entries k (cs ++ (c ∷ [])) ≡ plain_entries k cs ++ (grid.entry c.line false (k + length cs) 1 ∷ [])
unfolding plain_entries
entries_more k [] c = ap (λ (m : ℕ). grid.entry c.line false m 1 ∷ []) (omega arith)
entries_more k (b ∷ bs) c =
    ap (λ (l : List grid.Entry). grid.entry b.line false k 1 ∷ l)
    (entries_more (k + 1) bs c ∙ ap (λ (m : ℕ). plain_entries (k + 1) bs ++ (grid.entry c.line false m 1 ∷ [])) (omega arith))

shown_more : (cs : List Cell) (c : Cell) → map shown (plain_entries 0 (cs ++ (c ∷ []))) ≡ map shown (plain_entries 0 cs) ++ (entry c.line (length cs) 1 ∷ [])
shown_more cs c =
    ap (map shown) (entries_more 0 cs c)
    ∙ map_snoc shown (plain_entries 0 cs) (grid.entry c.line false (0 + length cs) 1)
    ∙ ap (λ (m : ℕ). map shown (plain_entries 0 cs) ++ (entry c.line m 1 ∷ [])) (omega arith)

-- ---- lines

-- cells before those that the lines still to come hold
abbrev with_cells : List Cell → Frame → Frame
with_cells cs f = record { cells = cs; rows = f.rows; bodies = f.bodies }

abbrev adds : List Cell → Frame → Frame
adds cs f = with_cells (cs ++ f.cells) f

-- a line that is no cell of the row, and does not stand in one, ends it
pub no_cells : (ks : List NodeRecord) (d i : ℕ) → (get_or ks i no_node).depth ≤ d + 2 → cells_from ks d i ≡ []
no_cells ks d i h = go (dec_lt d (get_or ks i no_node).depth) (ℕ_discrete (get_or ks i no_node).depth (d + 1))
  where
    go : Dec (d < (get_or ks i no_node).depth) → Dec ((get_or ks i no_node).depth ≡ d + 1) → cells_from ks d i ≡ []
    go (no g) b = ap (λ (f : Frame). f.cells) (frame_stop ks d i (omega arith))
    go (yes g) (yes b) = ap (λ (f : Frame). f.cells) (frame_body ks d i g b)
    go (yes g) (no b) = ap (λ (f : Frame). f.cells) (frame_row ks d i g b (omega arith))

-- ---- the loop

pub record RowLoop (ks : List NodeRecord) (d from n : ℕ) (es₀ es : List Entry) (k i : ℕ) : Type 0 where
  pub cells : List Cell
  pub whole : lines_from ks d from ≡ adds cells (lines_from ks d i)
  pub plain : All Plain cells
  pub count : k ≡ length cells
  pub after : from ≤ i
  pub within : i ≤ length ks
  pub written : take (n + k) es ≡ take n es₀ ++ map shown (plain_entries 0 cells)
  pub same : length es ≡ length es₀

found_plain : {ks : List NodeRecord} {d from n : ℕ} {end : RowCells} {es₀ es : List Entry} → RowDone ks d from n end es₀ es → TryRowPost ks d from n (Some end) es₀ es
found_plain {ks} {d} {from} {n} {end} {es₀} {es} w = record { done = λ end' e. let q : end ≡ end' = cc in subst (λ (x : RowCells). RowDone ks d from n x es₀ es) q w }

pub row_start : (ks : List NodeRecord) (d from n : ℕ) (es : List Entry) → from ≤ length ks → RowLoop ks d from n es es 0 from
unfolding plain_entries All
row_start ks d from n es h = let e : n + 0 ≡ n = omega arith in record {
  cells = [];
  whole = refl;
  plain = tt;
  count = refl;
  after = omega arith;
  within = h;
  written = ap (λ (m : ℕ). take m es) e ∙ sym (append-nil (take n es));
  same = refl;
}

module _ {ks : List NodeRecord} {d from n : ℕ} {es₀ es : List Entry} {k i : ℕ} (z : RowLoop ks d from n es₀ es k i) where
  abbrev here : NodeRecord
  here = get_or ks i no_node

  module _ (h : here.depth ≡ d + 3) where
    more : i < length ks
    more = inside ks i d (omega arith)

    opened : lines_from ks d i ≡ open_cell (i + 1) here (lines_from ks d (i + 1))
    opened = frame_cell ks d i (omega arith) (λ e. omega arith) (λ e. omega arith) h

    -- there is room for a cell more
    pub row_capacity : TryRowPre ks d from n es₀ → (n + k < length es) × (n + k < max_entries)
    row_capacity t =
        let e : cells_from ks d from ≡ z.cells ++ (cell (i + 1) here.cols here.rows ∷ cells_from ks d (i + 1)) =
        ap (λ (f : Frame). f.cells) z.whole ∙ ap (λ (f : Frame). z.cells ++ f.cells) opened in
        let l = length-append z.cells (cell (i + 1) here.cols here.rows ∷ cells_from ks d (i + 1)) in
        (omega (arith, t.capacity, ap length e, l, z.count, z.same), omega (arith, t.few, ap length e, l, z.count))

    pub row_cell : (here.cols ≡ 1) × (here.rows ≡ 1) → n + k < length es → RowLoop ks d from n es₀ (set es (n + k) (entry (i + 1) k 1)) (k + 1) (i + 1)
    unfolding All
    row_cell p capacity =
        let c = cell (i + 1) here.cols here.rows in
        let new = entry (i + 1) k 1 in
        let f = lines_from ks d (i + 1) in
        let s : n + (k + 1) ≡ suc (n + k) = omega arith in
        record {
          cells = z.cells ++ (c ∷ []);
          whole =
              z.whole ∙ ap (adds z.cells) opened
              ∙ ap (λ (l : List Cell). with_cells l f) (sym (append_assoc z.cells (c ∷ []) f.cells));
          plain = all_append Plain z.cells (c ∷ []) z.plain (p, tt);
          count = omega (arith, z.count, length-append z.cells (c ∷ []));
          after = omega (arith, z.after);
          within = omega (arith, more);
          written =
              ap (λ (m : ℕ). take m (set es (n + k) new)) s
              ∙ take-suc-set es (n + k) new capacity
              ∙ ap (λ (l : List Entry). l ++ (new ∷ [])) z.written
              ∙ append_assoc (take n es₀) (map shown (plain_entries 0 z.cells)) (new ∷ [])
              ∙ ap (λ (m : ℕ). take n es₀ ++ (map shown (plain_entries 0 z.cells) ++ (entry (i + 1) m 1 ∷ []))) z.count
              ∙ ap (λ (l : List Entry). take n es₀ ++ l) (sym (shown_more z.cells c));
          same = length-set es (n + k) new ∙ z.same;
        }

  -- a line that stands in a cell
  pub row_deeper : d + 2 < here.depth → (here.depth ≡ d + 3 → ⊥) → RowLoop ks d from n es₀ es k (i + 1)
  row_deeper h ne = record {
    cells = z.cells;
    whole = z.whole ∙ ap (adds z.cells) (frame_deeper ks d i (omega arith) (λ e. omega arith) (λ e. omega arith) ne);
    plain = z.plain;
    count = z.count;
    after = omega (arith, z.after);
    within = let m : i < length ks = inside ks i (d + 2) h in omega arith;
    written = z.written;
    same = z.same;
  }

  row_done : here.depth ≤ d + 2 → RowDone ks d from n (record { next = i; cells = k }) es₀ es
  row_done h =
      let e : cells_from ks d from ≡ z.cells =
      ap (λ (f : Frame). f.cells) z.whole ∙ ap (λ (l : List Cell). z.cells ++ l) (no_cells ks d i h) ∙ append-nil z.cells in
      record {
        after = z.after;
        within = z.within;
        stops = h;
        rows_are = ap (λ (f : Frame). f.rows) z.whole;
        bodies_are = ap (λ (f : Frame). f.bodies) z.whole;
        plain = subst (All Plain) (sym e) z.plain;
        count = z.count ∙ ap length (sym e);
        written = z.written ∙ ap (λ (l : List Cell). take n es₀ ++ map shown (plain_entries 0 l)) (sym e);
      }

  pub row_stop : here.depth ≤ d + 2 → TryRowPost ks d from n (Some (record { next = i; cells = k })) es₀ es
  row_stop h = found_plain (row_done h)
