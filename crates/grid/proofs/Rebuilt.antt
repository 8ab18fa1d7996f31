-- The table that the listed slices hold: rebuilt from them it is the table that was listed, its rows' ends rise, and it has no more rows and
-- cells than there are lines from the table's on.
use mathlib.Core.Path.{◌≡◌, refl, sym, ap, ap₂, ◌∙◌, subst}
use mathlib.Core.Bool.{Bool, ◌||◌}
use mathlib.Core.List.{List, [], ◌∷◌, ◌++◌, map, map-append}
use Prim.Native.Nat.{ℕ, ◌+◌, ◌-◌, ◌≤◌, ◌<◌}
use native.Mathlib.Omega.{arith}
use lib.Dec.{ltb}
use lib.ListN.{length, get_or, take, drop, length-map, length-drop}
use Rattle.common.specs.inner.Lists.{over}
use Rattle.common.specs.Limits.{max_lines, max_position}
use Rattle.common.proofs.Over.{over_front}
use lib.Seq.{length-take-le}
use Rattle.std.proofs.lemmas.List.{drop-map}
use Rattle.records.specs.NodeRecord.{no_node}
use Rattle.records.specs.declared.NodeRecord.{NodeRecord}
use Rattle.resolved_rows.specs.Cells.{Row}
use Rattle.resolved_rows.specs.Listed.{table_rows}
use Rattle.resolved_rows.specs.inner.Listed.{cell_line, cell_cols, cell_rows, all_cells, cell_ends, ListRowsPre, ListRowsPost}
use Rattle.resolved_rows.proofs.Rows.{length_ends}
use Rattle.resolved_rows.proofs.Facts.{rows_few}
use Rattle.resolved_rows.specs.inner.Spans.{part}
use Rattle.grid_row.specs.Row.{Item, item_of, items_end, row_from, nexts}
use Rattle.grid_positions.specs.Positions.{originals, all_rows, ends_past, entry_count}
use Rattle.grid_positions.specs.inner.Slices.{cells_in, table_of, Rising, RowsWithin, PositionRowsPre}
use Rattle.grid.specs.Judging.{Lined}
use Rattle.grid.specs.Facts.{Sound}
use Rattle.grid_positions.proofs.TableSlices.{table_listed, listed_rises}

-- where rows end and how many entries they have does not depend on their lines
module _ (lines spans rows : List ℕ) where
  abbrev entries_at : List Item → ℕ → ℕ → List Item
  entries_at hs a e = row_from 0 hs (map item_of (cells_in (part a e lines) (part a e spans) (part a e rows)))

  past_lines : (rl rl' : List ℕ) (hs : List Item) (a : ℕ) (ends : List ℕ)
      → ends_past (originals hs (table_of lines spans rows rl a ends)) ≡ ends_past (originals hs (table_of lines spans rows rl' a ends))
  unfolding table_of originals ends_past
  past_lines rl rl' hs a [] = refl
  past_lines rl rl' hs a (e ∷ ends) =
      ap (λ (b : Bool). ltb max_position (items_end (entries_at hs a e)) || b) (past_lines (drop 1 rl) (drop 1 rl') (nexts (entries_at hs a e)) e ends)

  count_lines : (rl rl' : List ℕ) (hs : List Item) (a : ℕ) (ends : List ℕ)
      → entry_count (originals hs (table_of lines spans rows rl a ends)) ≡ entry_count (originals hs (table_of lines spans rows rl' a ends))
  unfolding table_of originals entry_count
  count_lines rl rl' hs a [] = refl
  count_lines rl rl' hs a (e ∷ ends) = ap (λ (n : ℕ). length (entries_at hs a e) + n) (count_lines (drop 1 rl) (drop 1 rl') (nexts (entries_at hs a e)) e ends)

-- a list that is written over the front of a buffer is found there
pub front : (l o₀ o : List ℕ) (n : ℕ) → n ≡ length l → o ≡ over l o₀ → take n o ≡ l
front l o₀ o n q e = ap₂ take q e ∙ over_front l o₀

-- a list whose front is lent and comes back
pub map_front : {A : Type 0} (f : A → ℕ) (m : ℕ) (xs ys : List A) → map f (ys ++ drop m xs) ≡ map f ys ++ drop m (map f xs)
map_front f m xs ys = map-append f ys (drop m xs) ∙ ap (λ (l : List ℕ). map f ys ++ l) (sym (drop-map f m xs))

module _ {rs : List Row} {line₀ span₀ rows₀ row₀ end₀ line span rows row end : List ℕ} {cells count : ℕ}
    (w : ListRowsPost rs line₀ span₀ rows₀ row₀ end₀ line span rows row end cells count) where
  front_lines : take cells line ≡ map cell_line (all_cells rs)
  front_lines = front (map cell_line (all_cells rs)) line₀ line cells (w.cells_are ∙ sym (length-map (all_cells rs) cell_line)) w.written.lines

  front_ends : take count end ≡ cell_ends 0 rs
  front_ends = front (cell_ends 0 rs) end₀ end count (w.rows_are ∙ sym (length_ends 0 rs)) w.written.ends

  pub rebuilt : table_of (take cells line) (take cells span) (take cells rows) row 0 (take count end) ≡ rs
  rebuilt =
      (λ i. table_of (front_lines i)
      (front (map cell_cols (all_cells rs)) span₀ span cells (w.cells_are ∙ sym (length-map (all_cells rs) cell_cols)) w.written.spans i)
      (front (map cell_rows (all_cells rs)) rows₀ rows cells (w.cells_are ∙ sym (length-map (all_cells rs) cell_rows)) w.written.rowspans i)
      (w.written.row_lines i) 0 (front_ends i))
      ∙ table_listed rs row₀

  pub rebuilt_rises : Rising 0 (take count end) (length (take cells line))
  rebuilt_rises =
      subst (λ (l : List ℕ). Rising 0 (take count end) (length l)) (sym front_lines)
      (subst (λ (l : List ℕ). Rising 0 l (length (map cell_line (all_cells rs)))) (sym front_ends) (listed_rises rs))

  pub listed_in : {m : ℕ} → length rs + length (all_cells rs) ≤ m → (cells ≤ m) × (count ≤ m)
  listed_in h = omega (arith, w.cells_are, w.rows_are)

  -- its positions can be made
  listed_within : Sound rs → {l s : List ℕ} → entry_count (all_rows rs) ≤ length l → entry_count (all_rows rs) ≤ length s
      → RowsWithin (take cells line) (take cells span) (take cells rows) (take count end) l s
  listed_within z a b =
      let same : (rl : List ℕ) → entry_count (all_rows (table_of (take cells line) (take cells span) (take cells rows) rl 0 (take count end))) ≡ entry_count (all_rows rs) =
      λ rl. count_lines (take cells line) (take cells span) (take cells rows) rl row [] 0 (take count end) ∙ ap (λ (t : List Row). entry_count (all_rows t)) rebuilt in
      record {
        ends_in = λ rl.
            past_lines (take cells line) (take cells span) (take cells rows) rl row [] 0 (take count end)
            ∙ ap (λ (t : List Row). ends_past (all_rows t)) rebuilt ∙ z.within;
        few = λ rl. omega (arith, same rl, z.few);
        line_capacity = λ rl. omega (arith, same rl, a);
        span_capacity = λ rl. omega (arith, same rl, b);
      }

  pub listed_ready : {m : ℕ} → length rs + length (all_cells rs) ≤ m → m ≤ max_lines
      → cells ≤ length line → cells ≤ length span → cells ≤ length rows → count ≤ length end
      → Sound rs → {l s left at wide nl na nw : List ℕ} → entry_count (all_rows rs) ≤ length l → entry_count (all_rows rs) ≤ length s
      → m ≤ length left → m ≤ length at → m ≤ length wide → m ≤ length nl → m ≤ length na → m ≤ length nw
      → PositionRowsPre (take cells line) (take cells span) (take cells rows) (take count end) l s (take count end) left at wide nl na nw
  listed_ready few short a b d f z g h l₁ l₂ l₃ l₄ l₅ l₆ =
      let u = length-take-le count end f in
      let v = length-take-le cells line a in
      let x = w.cells_are in
      let y = w.rows_are in
      record {
        rising = rebuilt_rises;
        spans_length = length-take-le cells span b ∙ sym v;
        rows_length = length-take-le cells rows d ∙ sym v;
        few = omega arith;
        within = listed_within z g h;
        row_end_capacity = omega arith;
        left_capacity = omega arith;
        at_capacity = omega arith;
        wide_capacity = omega arith;
        next_left_capacity = omega arith;
        next_at_capacity = omega arith;
        next_wide_capacity = omega arith;
      }

-- ---- how many

pub held_few : (ks : List NodeRecord) (at : ℕ) → length (table_rows ks at) + length (all_cells (table_rows ks at)) ≤ length ks - at
unfolding table_rows
held_few ks at = omega (arith, rows_few (get_or ks at no_node).depth (at + 1) (drop (at + 1) ks), length-drop (at + 1) ks)

-- the table at a place can be listed
pub lined_ready : {ks : List NodeRecord} → Lined ks → {at : ℕ} → at < length ks → {line span rows row end : List ℕ}
    → length ks - at ≤ length line → length ks - at ≤ length span → length ks - at ≤ length rows → length ks - at ≤ length row → length ks - at ≤ length end
    → ListRowsPre ks at line span rows row end
lined_ready l {at} h a b c d e = record {
  within = h;
  short = l.short;
  shallow = l.shallow at;
  step = l.step;
  narrow = l.narrow;
  line_capacity = omega arith;
  span_capacity = omega arith;
  rows_capacity = omega arith;
  row_capacity = omega arith;
  end_capacity = omega arith;
}
