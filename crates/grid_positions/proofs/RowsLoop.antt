-- The loop of `position_rows` on plain lists and numbers: what holds at its head, and what a turn does.
use mathlib.Core.Path.{◌≡◌, refl, sym, ap, ap₂, subst, ◌∙◌}
use mathlib.Core.Bool.{Bool, false, ◌||◌}
use mathlib.Core.List.{List, [], ◌∷◌, ◌++◌, map, map-map, map-append, append_assoc, append-nil}
use Prim.Native.Nat.{ℕ, ◌+◌, ◌-◌, ◌≤◌, ◌<◌}
use native.Mathlib.Nat.{add-zero}
use native.Mathlib.Omega.{arith}
use lib.ListN.{length, get_or, set, take, drop, length-append, length-map, length-set, drop_of_length-le}
use lib.Seq.{get_or-drop}
use borrow.Author.Tests.{le-ltb}
use Rattle.std.proofs.lemmas.List.{drop_more}
use Rattle.records.specs.declared.Entry.{Entry}
use Rattle.records.specs.declared.RowEnd.{RowEnd}
use Rattle.common.specs.Lists.{sum, All}
use Rattle.common.specs.inner.Lists.{over}
use Rattle.common.specs.Limits.{max_position, max_entries}
use Rattle.common.proofs.Over.{over_none, over_push, over_front, over_rest}
use Rattle.records.specs.inner.Figures.{row_lines_of}
use Rattle.resolved_rows.specs.Cells.{Cell}
use Rattle.resolved_rows.specs.Cells as cells
use Rattle.grid_row.specs.declared.Overhang.{Overhang}
use Rattle.grid_row.specs.Row.{Item, item_of, item_span, items_end, row_from, nexts}
use Rattle.grid_row.specs.inner.Row.{item_line, item_left, item_pos}
use Rattle.grid_row.proofs.Steps.{nexts_length}
use Rattle.grid_row.proofs.Merging.{Filler, row_length, nexts_fillers}
use Rattle.grid_row.proofs.Owners.{bare, Slices, row_lines, row_spans, row_nexts}
use Rattle.grid_positions.proofs.Thirds.{Front}
use Rattle.grid_positions.specs.Positions.{PositionRow, row, originals, all_rows, ends_past, entry_count}
use Rattle.resolved_rows.specs.inner.Spans.{part}
use Rattle.grid_row.specs.inner.Overhangs.{lefts_in, ats_in, wides_in}
use Rattle.grid_positions.specs.inner.Slices.{cells_in, table_of, Rising, all_items, entry_ends, over_at, row_at, OneRowPost, OneRowPre, Stored, PositionRowsPre, PositionRowsPost}
use Rattle.grid_positions.proofs.OverAt.{over_after, part_length}
use Rattle.grid_positions.proofs.RowLists.{items_append, items_count, count_append, ends_length, ends_append}
use Rattle.grid_positions.proofs.TableSlices.{cells_lines, cells_cols, cells_rows, cells_count, table_next, table_count}
use Rattle.grid_positions.proofs.TableFacts.{not_past}

-- ---- the next original row

module _ (hs : List Item) (r : cells.Row) (rs : List cells.Row) where
  abbrev entries : List Item
  entries = row_from 0 hs (map item_of r.cells)

  -- it ends within 4,096 where none ends past it
  row_within : ends_past (originals hs (r ∷ rs)) ≡ false → items_end entries ≤ max_position
  unfolding originals All
  row_within p = (not_past (originals hs (r ∷ rs)) p).0

  past_later : items_end entries ≤ max_position → ends_past (originals (nexts entries) rs) ≡ ends_past (originals hs (r ∷ rs))
  unfolding originals ends_past
  past_later h = sym (ap (λ (b : Bool). b || ends_past (originals (nexts entries) rs)) (le-ltb max_position (items_end entries) h))

-- ---- what holds at the loop's head

-- of the numbers and the lengths
pub record Bounds (lines ends l₀ s₀ e₀ left₀ at₀ wide₀ nl₀ na₀ nw₀ l s e left at wide nl na nw : List ℕ) (first r n k : ℕ) : Type 0 where
  pub along : r ≤ length ends
  pub rising : Rising first (drop r ends) (length lines)
  pub inside : first ≤ length lines
  pub few : k ≤ first
  pub line_length : length l ≡ length l₀
  pub span_length : length s ≡ length s₀
  pub end_length : length e ≡ length e₀
  pub left_length : length left ≡ length left₀
  pub at_length : length at ≡ length at₀
  pub wide_length : length wide ≡ length wide₀
  pub next_left_length : length nl ≡ length nl₀
  pub next_at_length : length na ≡ length na₀
  pub next_wide_length : length nw ≡ length nw₀

-- of the rows, whatever their lines are: `done` are those so far, hs hang into the next, and they go on as
-- the original rows from there
pub record Sofar (lines spans rows ends rl l₀ s₀ e₀ l s e left at wide : List ℕ) (first r n k : ℕ) : Type 0 where
  pub done : List PositionRow
  pub hs : List Item
  pub is : done ++ originals hs (table_of lines spans rows (drop r rl) first (drop r ends)) ≡ originals [] (table_of lines spans rows rl 0 ends)
  pub ends_in : ends_past (originals hs (table_of lines spans rows (drop r rl) first (drop r ends))) ≡ false
  pub rows_are : r ≡ length done
  pub entries_are : n ≡ entry_count done
  pub hang_are : k ≡ length hs
  pub fillers : All Filler hs
  pub left_is : take k left ≡ map item_left hs
  pub at_is : take k at ≡ map item_pos hs
  pub wide_is : take k wide ≡ map item_span hs
  pub stored : Stored (all_items done) l₀ s₀ l s
  pub ends_are : e ≡ over (entry_ends 0 done) e₀

-- what was written and then copied
carried : (v o w t : List ℕ) (m : ℕ) → m ≡ length v → w ≡ over v o → take m t ≡ take m w → take m t ≡ v
carried v o w t m e p q = q ∙ ap₂ take e p ∙ over_front v o

-- the end of the next row is not written yet
pub end_kept : {lines spans rows ends rl l₀ s₀ e₀ l s e left at wide : List ℕ} {first r n k : ℕ} → Sofar lines spans rows ends rl l₀ s₀ e₀ l s e left at wide first r n k
    → get_or e r 0 ≡ get_or e₀ r 0
end_kept {e₀ = e₀} {e = e} {r = r} z =
    let d = entry_ends 0 z.done in
    let a : (x : List ℕ) → get_or x r 0 ≡ get_or (drop r x) 0 0 = λ x. ap (λ (j : ℕ). get_or x j 0) (sym (add-zero r)) ∙ sym (get_or-drop r x 0 0) in
    let n : length d ≡ r = ends_length 0 z.done ∙ sym z.rows_are in
    let w : drop r e ≡ drop r e₀ = ap (drop r) z.ends_are ∙ sym (ap (λ (j : ℕ). drop j (over d e₀)) n) ∙ over_rest d e₀ ∙ ap (λ (j : ℕ). drop j e₀) n in
    a e ∙ ap (λ (x : List ℕ). get_or x 0 0) w ∙ sym (a e₀)

-- of the records
pub record Held (rows₀ : List RowEnd) (entries₀ : List Entry) (overhang₀ : List ℕ) (next₀ : List Overhang) (rows : List RowEnd) (entries : List Entry) (overhang : List ℕ) (next : List Overhang) : Type 0 where
  pub rows_long : length rows ≡ length rows₀
  pub entries_long : length entries ≡ length entries₀
  pub overhang_long : length overhang ≡ length overhang₀
  pub next_long : length next ≡ length next₀
  pub lines_same : row_lines_of rows ≡ row_lines_of rows₀

module _ {lines spans rows ends l₀ s₀ e₀ left₀ at₀ wide₀ nl₀ na₀ nw₀ : List ℕ} (q : PositionRowsPre lines spans rows ends l₀ s₀ e₀ left₀ at₀ wide₀ nl₀ na₀ nw₀) where
  pub start_bounds : Bounds lines ends l₀ s₀ e₀ left₀ at₀ wide₀ nl₀ na₀ nw₀ l₀ s₀ e₀ left₀ at₀ wide₀ nl₀ na₀ nw₀ 0 0 0 0
  start_bounds = record {
    along = omega arith;
    rising = q.rising;
    inside = omega arith;
    few = omega arith;
    line_length = refl;
    span_length = refl;
    end_length = refl;
    left_length = refl;
    at_length = refl;
    wide_length = refl;
    next_left_length = refl;
    next_at_length = refl;
    next_wide_length = refl;
  }

  pub start : (rl : List ℕ) → Sofar lines spans rows ends rl l₀ s₀ e₀ l₀ s₀ e₀ left₀ at₀ wide₀ 0 0 0 0
  unfolding All entry_count entry_ends all_items
  start rl = record {
    done = [];
    hs = [];
    is = refl;
    ends_in = q.within.ends_in rl;
    rows_are = refl;
    entries_are = refl;
    hang_are = refl;
    fillers = tt;
    left_is = refl;
    at_is = refl;
    wide_is = refl;
    stored = record { lines = sym (over_none l₀); spans = sym (over_none s₀) };
    ends_are = sym (over_none e₀);
  }

  module _ {l s e left at wide nl na nw : List ℕ} {first r n k : ℕ} (b : Bounds lines ends l₀ s₀ e₀ left₀ at₀ wide₀ nl₀ na₀ nw₀ l s e left at wide nl na nw first r n k) where
    -- ---- after the last row

    module _ (rl : List ℕ) (z : Sofar lines spans rows ends rl l₀ s₀ e₀ l s e left at wide first r n k) (g : length ends ≤ r) where
      abbrev T : List cells.Row
      T = table_of lines spans rows rl 0 ends

      none : table_of lines spans rows (drop r rl) first (drop r ends) ≡ []
      unfolding table_of
      none = ap (table_of lines spans rows (drop r rl) first) (drop_of_length-le ends g)

      all_rows_lem : z.done ≡ originals [] T
      unfolding originals
      all_rows_lem = sym (append-nil z.done) ∙ ap (λ (t : List cells.Row). z.done ++ originals z.hs t) (sym none) ∙ z.is

      pub stop : (m : ℕ) → m ≡ length ends → PositionRowsPost T (record { rows = m; entries = n }) l₀ s₀ e₀ l s e
      stop m is = record {
        rows_are = is ∙ sym (table_count lines spans rows rl 0 ends);
        entries_are = z.entries_are ∙ ap entry_count all_rows_lem;
        positioned = record {
          stored = subst (λ (rs : List PositionRow). Stored (all_items rs) l₀ s₀ l s) all_rows_lem z.stored;
          ends = z.ends_are ∙ ap (λ (rs : List PositionRow). over (entry_ends 0 rs) e₀) all_rows_lem;
        };
      }

    -- ---- a row

    module _ (h : r < length ends) (end : ℕ) (is-end : get_or ends r 0 ≡ end) where
      rising_here : Rising first (end ∷ drop (r + 1) ends) (length lines)
      rising_here = subst (λ (x : List ℕ). Rising first x (length lines)) (drop_more ends r 0 h ∙ ap (λ (t : ℕ). t ∷ drop (r + 1) ends) is-end) b.rising

      pub cells_in_lem : (first ≤ end) × (end ≤ length lines)
      cells_in_lem = (rising_here.0, rising_here.1)

      abbrev X : List Item
      X = row_at lines spans rows first end left at wide k

      abbrev C : List Cell
      C = cells_in (part first end lines) (part first end spans) (part first end rows)

      lines_count : length (part first end lines) ≡ end - first
      lines_count = part_length first end lines cells_in_lem.0 cells_in_lem.1

      spans_count : length (part first end spans) ≡ end - first
      spans_count = part_length first end spans cells_in_lem.0 (omega (arith, cells_in_lem.1, q.spans_length))

      rows_count : length (part first end rows) ≡ end - first
      rows_count = part_length first end rows cells_in_lem.0 (omega (arith, cells_in_lem.1, q.rows_length))

      -- the true row, with its owners
      module _ (rl : List ℕ) (z : Sofar lines spans rows ends rl l₀ s₀ e₀ l s e left at wide first r n k) where
        abbrev R : List Item
        R = row_from 0 z.hs (map item_of C)

        slices : Slices C z.hs (part first end lines) (part first end spans) (part first end rows) (take k left) (take k at) (take k wide)
        slices = record {
          lines_are = sym (cells_lines (part first end lines) (part first end spans) (part first end rows));
          spans_are = sym (cells_cols (part first end lines) (part first end spans) (part first end rows) (spans_count ∙ sym lines_count));
          rows_are = sym (cells_rows (part first end lines) (part first end spans) (part first end rows) (rows_count ∙ sym lines_count));
          left_is = z.left_is;
          at_is = z.at_is;
          wide_is = z.wide_is;
          fillers = z.fillers;
        }

        row_count : length R ≡ end - first + k
        row_count =
            row_length 0 z.hs (map item_of C)
            ∙ ap₂ (λ (x y : ℕ). x + y) (length-map C item_of ∙ cells_count (part first end lines) (part first end spans) (part first end rows) ∙ lines_count) (sym z.hang_are)

        abbrev line : ℕ
        line = get_or (drop r rl) 0 0

        abbrev rest : List cells.Row
        rest = table_of lines spans rows (drop (r + 1) rl) end (drop (r + 1) ends)

        here : table_of lines spans rows (drop r rl) first (drop r ends) ≡ cells.row line C ∷ rest
        here =
            subst
            (λ (t : ℕ).
            table_of lines spans rows (drop r rl) first (drop r ends)
            ≡ cells.row line (cells_in (part first t lines) (part first t spans) (part first t rows)) ∷ table_of lines spans rows (drop (r + 1) rl) t (drop (r + 1) ends))
            is-end (table_next lines spans rows ends rl first r h)

        next : originals z.hs (table_of lines spans rows (drop r rl) first (drop r ends)) ≡ row line R ∷ originals (nexts R) rest
        unfolding originals
        next = ap (originals z.hs) here

        -- it ends within 4,096
        row_ends_fits : items_end R ≤ max_position
        row_ends_fits = row_within z.hs (cells.row line C) rest (ap (λ (t : List cells.Row). ends_past (originals z.hs t)) (sym here) ∙ z.ends_in)

        -- its entries are among the table's, so there are few enough, with a place for each
        entries_in_fits : n + (end - first + k) ≤ entry_count (all_rows (table_of lines spans rows rl 0 ends))
        unfolding entry_count
        entries_in_fits =
            let o = originals z.hs (table_of lines spans rows (drop r rl) first (drop r ends)) in
            omega (arith, z.entries_are, ap entry_count z.is, count_append z.done o, ap entry_count next, row_count)

        pub few_entries : n + (end - first + k) ≤ max_entries
        few_entries = omega (arith, entries_in_fits, q.within.few rl)

        -- it can be merged
        pub ready : OneRowPre lines spans rows first end left at wide k l s n nl na nw
        unfolding row_at
        ready =
            let u : first ≤ end = cells_in_lem.0 in
            let v : end ≤ length lines = cells_in_lem.1 in
            let w : k ≤ first = b.few in
            record {
              rises = u;
              lines_in_fits = v;
              spans_in = omega (arith, q.spans_length);
              rows_in_fits = omega (arith, q.rows_length);
              left_in = omega (arith, b.left_length, q.left_capacity);
              at_in = omega (arith, b.at_length, q.at_capacity);
              wide_in = omega (arith, b.wide_length, q.wide_capacity);
              ends = subst (λ (j : ℕ). j ≤ max_position) (sym (ap sum (row_spans slices))) row_ends_fits;
              line_capacity = omega (arith, entries_in_fits, b.line_length, q.within.line_capacity rl);
              span_capacity = omega (arith, entries_in_fits, b.span_length, q.within.span_capacity rl);
              next_left_capacity = omega (arith, b.next_left_length, q.next_left_capacity);
              next_at_capacity = omega (arith, b.next_at_length, q.next_at_capacity);
              next_wide_capacity = omega (arith, b.next_wide_length, q.next_wide_capacity);
            }

        -- it is merged, and p hang on
        module _ {p : ℕ} {l' s' nl' na' nw' : List ℕ} (g : OneRowPost n X p l s nl na nw l' s' nl' na' nw') where
          hang : p ≡ length (nexts R)
          unfolding row_at
          hang = g.hangs ∙ sym (length-map (nexts X) bare) ∙ ap length (row_nexts slices) ∙ length-map (nexts R) bare

          pub small : p ≤ end
          small = omega (arith, hang, nexts_length R, row_count, cells_in_lem, b.few)

          -- what hangs on, as it is written
          onward : (f : Item → ℕ) → map f (map bare (nexts X)) ≡ map f (nexts X) → map f (map bare (nexts R)) ≡ map f (nexts R) → map f (nexts X) ≡ map f (nexts R)
          unfolding row_at
          onward f x y = sym x ∙ ap (map f) (row_nexts slices) ∙ y

          hung : (f : Item → ℕ) (o o' v' : List ℕ) → map f (map bare (nexts X)) ≡ map f (nexts X) → map f (map bare (nexts R)) ≡ map f (nexts R)
              → o' ≡ over (map f (nexts X)) o → take p v' ≡ take p o' → take p v' ≡ map f (nexts R)
          hung f o o' v' x y w c =
              carried (map f (nexts R)) o o' v' p (hang ∙ sym (length-map (nexts R) f)) (w ∙ ap (λ (d : List ℕ). over d o) (onward f x y)) c

          -- the rows so far and this one
          items_more : all_items (z.done ++ (row line R ∷ [])) ≡ all_items z.done ++ R
          unfolding all_items
          items_more = items_append z.done (row line R ∷ []) ∙ ap (λ (xs : List Item). all_items z.done ++ xs) (append-nil R)

          abbrev m : ℕ
          m = end - first + k

          count_more : entry_count (z.done ++ (row line R ∷ [])) ≡ entry_count z.done + m
          unfolding entry_count
          count_more = omega (arith, count_append z.done (row line R ∷ []), row_count)

          ends_more : entry_ends 0 (z.done ++ (row line R ∷ [])) ≡ entry_ends 0 z.done ++ ((n + m) ∷ [])
          unfolding entry_ends
          ends_more =
              ends_append 0 z.done (row line R ∷ [])
              ∙ ap (λ (a : ℕ). entry_ends 0 z.done ++ (a ∷ [])) (omega (arith, z.entries_are, row_count))

          put_more : (f : Item → ℕ) (o₀ o o' : List ℕ) → map f X ≡ map f R
              → o ≡ over (map f (all_items z.done)) o₀ → o' ≡ over_at n (map f X) o → o' ≡ over (map f (all_items (z.done ++ (row line R ∷ [])))) o₀
          put_more f o₀ o o' x w w' =
              w' ∙ ap (λ (d : List ℕ). over_at n d o) x
              ∙ over_after (map f (all_items z.done)) (map f R) o₀ o n (omega (arith, z.entries_are, items_count z.done, length-map (all_items z.done) f)) w
              ∙ ap (λ (d : List ℕ). over d o₀) (sym (ap (map f) items_more ∙ map-append f (all_items z.done) R))

          pub turn : {e' o : List ℕ} → Front p nl' na' nw' o → e' ≡ set e r (n + m)
              → Sofar lines spans rows ends rl l₀ s₀ e₀ l' s' e' (lefts_in o) (ats_in o) (wides_in o) end (r + 1) (n + m) p
          unfolding row_at
          turn {e'} {o} c ee =
              let w = g.written in
              record {
                done = z.done ++ (row line R ∷ []);
                hs = nexts R;
                is = append_assoc z.done (row line R ∷ []) (originals (nexts R) rest) ∙ ap (λ (rs : List PositionRow). z.done ++ rs) (sym next) ∙ z.is;
                ends_in = past_later z.hs (cells.row line C) rest row_ends_fits ∙ ap (λ (x : List cells.Row). ends_past (originals z.hs x)) (sym here) ∙ z.ends_in;
                rows_are = omega (arith, z.rows_are, length-append z.done (row line R ∷ []));
                entries_are = omega (arith, z.entries_are, count_more);
                hang_are = hang;
                fillers = nexts_fillers R;
                left_is = hung item_left nl nl' (lefts_in o) (map-map item_left bare (nexts X)) (map-map item_left bare (nexts R)) w.lefts c.lefts;
                at_is = hung item_pos na na' (ats_in o) (map-map item_pos bare (nexts X)) (map-map item_pos bare (nexts R)) w.ats c.ats;
                wide_is = hung item_span nw nw' (wides_in o) (map-map item_span bare (nexts X)) (map-map item_span bare (nexts R)) w.wides c.wides;
                stored = record {
                  lines = put_more item_line l₀ l l' (row_lines slices) z.stored.lines w.lines;
                  spans = put_more item_span s₀ s s' (row_spans slices) z.stored.spans w.spans;
                };
                ends_are =
                    ee ∙ ap₂ (λ (x : List ℕ) (j : ℕ). set x j (n + m)) z.ends_are (z.rows_are ∙ sym (ends_length 0 z.done))
                    ∙ sym (over_push (entry_ends 0 z.done) e₀ (n + m) (omega (arith, z.rows_are, ends_length 0 z.done, q.row_end_capacity)))
                    ∙ ap (λ (d : List ℕ). over d e₀) (sym ends_more);
              }

          pub turn_bounds : {e' left' at' wide' : List ℕ} → e' ≡ set e r (n + m) → length l' ≡ length l → length s' ≡ length s
              → length left' ≡ length left → length at' ≡ length at → length wide' ≡ length wide
              → length nl' ≡ length nl → length na' ≡ length na → length nw' ≡ length nw
              → Bounds lines ends l₀ s₀ e₀ left₀ at₀ wide₀ nl₀ na₀ nw₀ l' s' e' left' at' wide' nl' na' nw' end (r + 1) (n + m) p
          turn_bounds ee el es ef ea ew fl fa fw = record {
            along = omega arith;
            rising = rising_here.2;
            inside = cells_in_lem.1;
            few = small;
            line_length = el ∙ b.line_length;
            span_length = es ∙ b.span_length;
            end_length = ap length ee ∙ simp length-set b.end_length;
            left_length = ef ∙ b.left_length;
            at_length = ea ∙ b.at_length;
            wide_length = ew ∙ b.wide_length;
            next_left_length = fl ∙ b.next_left_length;
            next_at_length = fa ∙ b.next_at_length;
            next_wide_length = fw ∙ b.next_wide_length;
          }
