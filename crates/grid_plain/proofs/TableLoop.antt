-- The loop of `try_plain` on plain lists: the rows so far are plain, and with what the lines still to come hold they are the table's as they are written;
-- their entries and records stand in the slices.
use mathlib.Core.Path.{◌≡◌, refl, sym, ap, ap₂, subst, ◌∙◌}
use mathlib.Core.Bool.{Bool, true}
use mathlib.Core.List.{List, [], ◌∷◌, ◌++◌, map, map-append, append_assoc, append-nil}
use Prim.{tt}
use Prim.Native.Nat.{ℕ, suc, ◌+◌, ◌≤◌, ◌<◌, max}
use native.Mathlib.Decide.{dec_lt}
use native.Mathlib.Numerals.{add-one}
use native.Mathlib.Omega.{arith}
use lib.ListN.{length, get_or, set, take, drop, length-append, length-set, length-map}
use lib.Dec.{ltb}
use lib.Seq.{take-suc-set}
use borrow.Author.Tests.{ltb-true}
use Rattle.records.specs.declared.RowEnd.{RowEnd}
use Rattle.common.specs.Lists.{All}
use Rattle.common.proofs.All.{all_append}
use Rattle.records.specs.NodeRecord.{no_node}
use Rattle.records.specs.declared.NodeRecord.{NodeRecord}
use Rattle.records.specs.declared.Entry.{Entry}
use Rattle.resolved_rows.specs.Cells.{Cell, Row, Frame, row, frame, resolved}
use Rattle.resolved_rows.specs.Listed.{table_rows}
use Rattle.resolved_rows.specs.inner.Listed.{all_cells}
use Rattle.resolved_rows.proofs.Lines.{frame_stop, frame_body, frame_row, inside}
use Rattle.resolved_rows.proofs.Rows.{cells_append}
use Rattle.grid_positions.specs.Positions.{all_rows, entry_count}
use Rattle.grid.specs.Grid.{GridRow, grid_of}
use Rattle.grid.specs.Grid as grid
use Rattle.grid_build.specs.declared.Counts.{Counts}
use Rattle.grid_build.specs.inner.Records.{shown, ended_rows, TableReady, TableMade}
use Rattle.grid_build.specs.inner.Records as records
use Rattle.resolved_rows.proofs.Listing.{step_on}
use Rattle.grid_plain.specs.declared.RowCells.{RowCells}
use Rattle.std.specs.Prelude.{Some}
use Rattle.grid_plain.specs.inner.Plain.{PlainRow, PlainTable, plain_entries, plain_row, plain_grid, most_cells}
use Rattle.grid_plain.specs.inner.Walking.{lines_from, TryRowPre, RowDone, TryPlainPost}
use Rattle.grid_plain.proofs.Plain.{plain_grid_lem}
use Rattle.grid_plain.proofs.Resolving.{joined, cells_joined, cells_few, resolved_plain}

-- ---- one more row of a grid

entries_length : (k : ℕ) (cs : List Cell) → length (plain_entries k cs) ≡ length cs
unfolding plain_entries
entries_length k [] = refl
entries_length k (c ∷ cs) = ap suc (entries_length (k + 1) cs)

entries_more : (g : List GridRow) (r : GridRow) → grid.entries_of (g ++ (r ∷ [])) ≡ grid.entries_of g ++ r.entries
unfolding grid.entries_of
entries_more [] r = append-nil r.entries
entries_more (q ∷ g) r = ap (λ (l : List grid.Entry). q.entries ++ l) (entries_more g r) ∙ sym (append_assoc q.entries (grid.entries_of g) r.entries)

ended_more : (n : ℕ) (g : List GridRow) (r : GridRow)
    → ended_rows n (g ++ (r ∷ [])) ≡ ended_rows n g ++ (records.row r.line (n + length (grid.entries_of g) + length r.entries) ∷ [])
unfolding ended_rows grid.entries_of
ended_more n [] r = ap (λ (m : ℕ). records.row r.line m ∷ []) (omega arith)
ended_more n (q ∷ g) r =
    let m = n + length q.entries in
    let e : m + length (grid.entries_of g) + length r.entries ≡ n + length (q.entries ++ grid.entries_of g) + length r.entries =
    omega (arith, length-append q.entries (grid.entries_of g)) in
    ap (λ (l : List RowEnd). records.row q.line m ∷ l)
    (ended_more m g r ∙ ap (λ (x : ℕ). ended_rows m g ++ (records.row r.line x ∷ [])) e)

most_more : (rs : List Row) (r : Row) → most_cells (rs ++ (r ∷ [])) ≡ max (most_cells rs) (length r.cells)
unfolding most_cells
most_more [] r = omega arith
most_more (q ∷ rs) r = omega (arith, most_more rs r)

grid_more : (rs : List Row) (r : Row) → plain_grid (rs ++ (r ∷ [])) ≡ plain_grid rs ++ (plain_row r ∷ [])
unfolding plain_grid
grid_more rs r = map-append plain_row rs (r ∷ [])

grid_length : (rs : List Row) → length (plain_grid rs) ≡ length rs
unfolding plain_grid
grid_length rs = length-map rs plain_row

grid_entries : (rs : List Row) → length (grid.entries_of (plain_grid rs)) ≡ length (all_cells rs)
unfolding plain_grid grid.entries_of all_cells
grid_entries [] = refl
grid_entries (r ∷ rs) =
    omega (
      arith,
      grid_entries rs,
      entries_length 0 r.cells,
      length-append (plain_entries 0 r.cells) (grid.entries_of (plain_grid rs)),
      length-append r.cells (all_cells rs),
    )

-- ---- lines

-- the rows that the lines still to come hold
abbrev still : Frame → List Row
still f = f.rows ++ joined f.bodies

-- a line that the loop's test lets pass is deeper than the table
pub test_deep : (ks : List NodeRecord) (at i : ℕ) {d : ℕ} {b : Bool} → d ≡ (get_or ks at no_node).depth → b ≡ ltb d (get_or ks i no_node).depth → b ≡ true
    → (get_or ks at no_node).depth < (get_or ks i no_node).depth
test_deep ks at i {d} e is t = omega (arith, e, ltb-true d (get_or ks i no_node).depth (sym is ∙ t))

-- the bodies of the table at a place, and their rows as they are written
abbrev bodies_at : List NodeRecord → ℕ → List (List Row)
bodies_at ks at = (lines_from ks (get_or ks at no_node).depth (at + 1)).bodies

table_is : (ks : List NodeRecord) (at : ℕ) → table_rows ks at ≡ resolved (bodies_at ks at)
unfolding table_rows
table_is ks at = ap (λ (k : ℕ). resolved (frame (get_or ks at no_node).depth k (drop (at + 1) ks)).bodies) (sym (add-one (at + 1)))

-- ---- the loop

pub record TableLoop (ks : List NodeRecord) (at : ℕ) (es₀ es : List Entry) (rs₀ rs : List RowEnd) (n r columns i : ℕ) : Type 0 where
  pub rows : List Row
  pub whole : rows ++ still (lines_from ks (get_or ks at no_node).depth i) ≡ joined (bodies_at ks at)
  pub plain : PlainTable rows
  pub fresh : (get_or ks i no_node).depth ≤ (get_or ks at no_node).depth + 2
  pub cells_are : n ≡ length (all_cells rows)
  pub rows_are : r ≡ length rows
  pub columns_are : columns ≡ most_cells rows
  pub entries_in_fits : take n es ≡ map shown (grid.entries_of (plain_grid rows))
  pub rows_in_fits : take r rs ≡ ended_rows 0 (plain_grid rows)
  pub few : r + (at + 1) ≤ i
  pub within : i ≤ length ks
  pub same_entries : length es ≡ length es₀
  pub same_rows : length rs ≡ length rs₀

found_plain : {table : List Row} {counts : Counts} {es : List Entry} {rs : List RowEnd} → TableMade table counts es rs → TryPlainPost table (Some counts) es rs
found_plain {table} {counts} {es} {rs} w = record { made = λ counts' e. let q : counts ≡ counts' = cc in subst (λ (x : Counts). TableMade table x es rs) q w }

module _ {ks : List NodeRecord} {at : ℕ} {es₀ : List Entry} {rs₀ : List RowEnd} (t : TableReady ks at es₀ rs₀) where
  abbrev d : ℕ
  d = (get_or ks at no_node).depth

  step : (k : ℕ) → (get_or ks (k + 1) no_node).depth ≤ (get_or ks k no_node).depth + 1
  step = step_on ks t.lined.step

  -- no row stands before the first body
  no_rows : (lines_from ks d (at + 1)).rows ≡ []
  no_rows = go (dec_lt d (get_or ks (at + 1) no_node).depth)
    where
      go : Dec (d < (get_or ks (at + 1) no_node).depth) → (lines_from ks d (at + 1)).rows ≡ []
      go (yes g) = ap (λ (f : Frame). f.rows) (frame_body ks d (at + 1) g (omega (arith, step at)))
      go (no g) = ap (λ (f : Frame). f.rows) (frame_stop ks d (at + 1) (omega arith))

  pub table_start : TableLoop ks at es₀ es₀ rs₀ rs₀ 0 0 0 (at + 1)
  unfolding All all_cells most_cells plain_grid grid.entries_of ended_rows
  table_start = record {
    rows = [];
    whole = ap (λ (l : List Row). l ++ joined (bodies_at ks at)) no_rows;
    plain = tt;
    fresh = omega (arith, step at);
    cells_are = refl;
    rows_are = refl;
    columns_are = refl;
    entries_in_fits = refl;
    rows_in_fits = refl;
    few = omega arith;
    within = omega (arith, t.within);
    same_entries = refl;
    same_rows = refl;
  }

  module _ {es : List Entry} {rs : List RowEnd} {n r columns i : ℕ} (z : TableLoop ks at es₀ es rs₀ rs n r columns i) where
    abbrev here : NodeRecord
    here = get_or ks i no_node

    -- where no line of the table is left, the rows are the table's
    pub table_stop : here.depth ≤ d → TryPlainPost (table_rows ks at) (Some (record { rows = r; entries = n; columns = columns })) es rs
    table_stop h =
        let w : z.rows ≡ joined (bodies_at ks at) =
        sym (append-nil z.rows) ∙ ap (λ (f : Frame). z.rows ++ still f) (sym (frame_stop ks d i h)) ∙ z.whole in
        let e : z.rows ≡ table_rows ks at = w ∙ sym (table_is ks at ∙ resolved_plain (bodies_at ks at) (subst PlainTable w z.plain)) in
        found_plain (subst (λ (l : List Row). TableMade l (record { rows = r; entries = n; columns = columns }) es rs) e made)
      where
        p : grid_of z.rows ≡ plain_grid z.rows
        p = (plain_grid_lem z.rows z.plain).grid

        made : TableMade z.rows (record { rows = r; entries = n; columns = columns }) es rs
        made = record {
          rows_are = z.rows_are ∙ sym (grid_length z.rows) ∙ ap length (sym p);
          entries_are = z.cells_are ∙ sym (grid_entries z.rows) ∙ ap (λ (g : List GridRow). length (grid.entries_of g)) (sym p);
          columns_are = z.columns_are ∙ sym (plain_grid_lem z.rows z.plain).columns;
          entries =
              subst (λ (g : List GridRow). take (length (grid.entries_of g)) es ≡ map shown (grid.entries_of g)) (sym p)
              (ap (λ (m : ℕ). take m es) (grid_entries z.rows ∙ sym z.cells_are) ∙ z.entries_in_fits);
          rows =
              subst (λ (g : List GridRow). take (length g) rs ≡ ended_rows 0 g) (sym p)
              (ap (λ (m : ℕ). take m rs) (grid_length z.rows ∙ sym z.rows_are) ∙ z.rows_in_fits);
        }

    module _ (h : d < here.depth) where
      pub more : i < length ks
      more = inside ks i d h

      -- a body's line
      pub table_body : (here.depth ≡ d + 2 → ⊥) → TableLoop ks at es₀ es rs₀ rs n r columns (i + 1)
      table_body ne =
          let b : here.depth ≡ d + 1 = omega (arith, z.fresh, ne) in
          record {
            rows = z.rows;
            whole = ap (λ (f : Frame). z.rows ++ still f) (sym (frame_body ks d i h b)) ∙ z.whole;
            plain = z.plain;
            fresh = omega (arith, step i);
            cells_are = z.cells_are;
            rows_are = z.rows_are;
            columns_are = z.columns_are;
            entries_in_fits = z.entries_in_fits;
            rows_in_fits = z.rows_in_fits;
            few = omega (arith, z.few);
            within = omega (arith, more);
            same_entries = z.same_entries;
            same_rows = z.same_rows;
          }

      module _ (b : here.depth ≡ d + 2) where
        -- what the lines after a row's hold
        abbrev f : Frame
        f = lines_from ks d (i + 1)

        opened : z.rows ++ (row (i + 1) f.cells ∷ still f) ≡ joined (bodies_at ks at)
        opened = ap (λ (g : Frame). z.rows ++ still g) (sym (frame_row ks d i h (λ e. omega arith) b)) ∙ z.whole

        -- the row's cells are among the table's, and so among its entries
        row_few : n + length f.cells ≤ entry_count (all_rows (table_rows ks at))
        unfolding all_cells
        row_few =
            omega (
              arith,
              z.cells_are,
              cells_few (table_rows ks at),
              ap (λ (l : List Row). length (all_cells l)) (table_is ks at),
              cells_joined (bodies_at ks at),
              ap (λ (l : List Row). length (all_cells l)) opened,
              ap length (cells_append z.rows (row (i + 1) f.cells ∷ still f)),
              length-append (all_cells z.rows) (f.cells ++ all_cells (still f)),
              length-append f.cells (all_cells (still f)),
            )

        pub row_ready : TryRowPre ks d (i + 1) n es
        row_ready = record {
          within = omega (arith, more);
          short = t.lined.short;
          shallow = t.lined.shallow at;
          few = omega (arith, row_few, t.sound.few);
          capacity = omega (arith, row_few, t.entry_capacity, z.same_entries);
        }

        pub table_row : (end : RowCells) (es' : List Entry) → RowDone ks d (i + 1) n end es es' → length es' ≡ length es
            → TableLoop ks at es₀ es' rs₀ (set rs r (records.row (i + 1) (n + end.cells))) (n + end.cells) (r + 1) (max columns end.cells) end.next
        unfolding all_cells All
        table_row end es' w s =
            let new = row (i + 1) f.cells in
            let g = plain_grid z.rows in
            let rows' = z.rows ++ (new ∷ []) in
            let added = records.row (i + 1) (n + end.cells) in
            let capacity : r < length rs = omega (arith, z.few, more, t.row_capacity, z.same_rows) in
            let m : r + 1 ≡ suc r = omega arith in
            let k : n + end.cells ≡ 0 + length (grid.entries_of g) + length (plain_entries 0 f.cells) =
            omega (arith, z.cells_are, grid_entries z.rows, entries_length 0 f.cells, w.count) in
            record {
              rows = rows';
              whole =
                  append_assoc z.rows (new ∷ []) (still (lines_from ks d end.next))
                  ∙ ap₂ (λ (a : List Row) (bs : List (List Row)). z.rows ++ (new ∷ (a ++ joined bs))) (sym w.rows_are) (sym w.bodies_are)
                  ∙ opened;
              plain = all_append PlainRow z.rows (new ∷ []) z.plain (w.plain, tt);
              fresh = w.stops;
              cells_are =
                  omega (
                    arith,
                    z.cells_are,
                    w.count,
                    ap length (cells_append z.rows (new ∷ [])),
                    length-append (all_cells z.rows) (f.cells ++ []),
                    ap length (append-nil f.cells),
                  );
              rows_are = omega (arith, z.rows_are, length-append z.rows (new ∷ []));
              columns_are = ap₂ max z.columns_are w.count ∙ sym (most_more z.rows new);
              entries_in_fits =
                  w.written
                  ∙ ap (λ (l : List Entry). l ++ map shown (plain_entries 0 f.cells)) z.entries_in_fits
                  ∙ sym (map-append shown (grid.entries_of g) (plain_entries 0 f.cells))
                  ∙ ap (map shown) (sym (ap grid.entries_of (grid_more z.rows new) ∙ entries_more g (plain_row new)));
              rows_in_fits =
                  ap (λ (x : ℕ). take x (set rs r added)) m
                  ∙ take-suc-set rs r added capacity
                  ∙ ap₂ (λ (l : List RowEnd) (x : ℕ). l ++ (records.row (i + 1) x ∷ [])) z.rows_in_fits k
                  ∙ sym (ap (ended_rows 0) (grid_more z.rows new) ∙ ended_more 0 g (plain_row new));
              few = omega (arith, z.few, w.after);
              within = w.within;
              same_entries = s ∙ z.same_entries;
              same_rows = length-set rs r added ∙ z.same_rows;
            }
