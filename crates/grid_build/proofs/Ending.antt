-- Where a table's lines end: what stands after them is none of the table's.
use mathlib.Core.Path.{◌≡◌, sym, ap, subst, ◌∙◌}
use mathlib.Core.Bool.{cond}
use mathlib.Core.List.{List, [], ◌∷◌}
use Prim.Native.Nat.{ℕ, zero, suc, ◌+◌, ◌-◌, ◌≤◌, ◌<◌}
use native.Mathlib.Decide.{dec_lt}
use native.Mathlib.Omega.{arith}
use lib.Dec.{leb, eqb}
use lib.ListN.{length, get_or, take, drop, get_or-eq_default}
use lib.Seq.{get_or-drop, get_or-take, length-take-le, take-nil}
use borrow.Author.Tests.{le-leb}
use Rattle.common.specs.Limits.{max_depth, max_cols}
use Rattle.records.specs.NodeRecord.{no_node}
use Rattle.records.specs.declared.NodeRecord.{NodeRecord}
use Rattle.records.specs.declared.Entry.{Entry}
use Rattle.records.specs.declared.RowEnd.{RowEnd}
use Rattle.resolved_rows.specs.Cells as cells
use Rattle.resolved_rows.specs.Cells.{Frame, no_frame, open_body, open_row, open_cell, frame, resolved}
use Rattle.resolved_rows.specs.Listed.{table_rows}
use Rattle.grid_positions.specs.Positions.{entry_count, all_rows}
use Rattle.grid.specs.Facts.{Sound}
use Rattle.grid.specs.Judging.{Lined}
use Rattle.grid_build.specs.inner.Records.{TableReady}
use Rattle.grid_build.specs.inner.Making.{EndOfPost}

-- ---- the table of its own lines

-- what a line makes of the frame of those after it
abbrev opened : ℕ → ℕ → NodeRecord → Frame → Frame
opened d k l f =
    cond (leb l.depth d) no_frame
    (cond (eqb l.depth (d + 1)) (open_body f)
    (cond (eqb l.depth (d + 2)) (open_row k f)
    (cond (eqb l.depth (d + 3)) (open_cell k l f)
    f)))

frame_take : (d : ℕ) (n k : ℕ) (ls : List NodeRecord) → (get_or ls n no_node).depth ≤ d → frame d k (take n ls) ≡ frame d k ls
unfolding frame
frame_take d n k [] h = ap (frame d k) (take-nil n)
frame_take d zero k (l ∷ ls) h = rw (le-leb l.depth d h)
frame_take d (suc n) k (l ∷ ls) h = ap (opened d k l) (frame_take d n (suc k) ls h)

drop_take : (n m : ℕ) (ls : List NodeRecord) → drop n (take m ls) ≡ take (m - n) (drop n ls)
drop_take zero m ls = let e : m - 0 ≡ m = omega arith in rw e
drop_take (suc n) zero ls = let e : 0 - suc n ≡ 0 = omega arith in rw e
drop_take (suc n) (suc m) [] = let e : suc m - suc n ≡ m - n = omega arith in rw e (sym (take-nil (m - n)))
drop_take (suc n) (suc m) (l ∷ ls) = let e : suc m - suc n ≡ m - n = omega arith in rw e (drop_take n m ls)

module _ (ks : List NodeRecord) (at end : ℕ) (h : at < end) (s : (get_or ks end no_node).depth ≤ (get_or ks at no_node).depth) where
  held_take : table_rows (take end ks) at ≡ table_rows ks at
  unfolding table_rows
  held_take =
      let d = (get_or ks at no_node).depth in
      let n = end - (at + 1) in
      let e : at + 1 + n ≡ end = omega arith in
      let q : get_or (drop (at + 1) ks) n no_node ≡ get_or ks end no_node = get_or-drop (at + 1) ks n no_node ∙ ap (λ (i : ℕ). get_or ks i no_node) e in
      let r : (get_or (drop (at + 1) ks) n no_node).depth ≤ d = rw q s in
      (λ i. resolved (frame (get_or-take end ks at no_node h i).depth (suc (at + 1)) (drop_take (at + 1) end ks i)).bodies)
      ∙ ap (λ (f : Frame). resolved f.bodies) (frame_take d n (suc (at + 1)) (drop (at + 1) ks) r)

-- the front of lines that are read is read
lined_take : {ks : List NodeRecord} (n : ℕ) → n ≤ length ks → Lined ks → Lined (take n ks)
lined_take {ks} n h z = record {
  short = omega (arith, length-take-le n ks h, z.short);
  shallow = λ k. each (λ l. l.depth ≤ max_depth) k (z.shallow k) (omega arith) (dec_lt k n);
  step = λ k l.
      let m : k + 1 < n = omega (arith, length-take-le n ks h) in
      rw (get_or-take n ks (k + 1) no_node m, get_or-take n ks k no_node (omega arith)) (z.step k (omega arith));
  narrow = λ k. each (λ l. l.cols ≤ max_cols) k (z.narrow k) (omega arith) (dec_lt k n);
}
  where
    each : (P : NodeRecord → Type 0) (k : ℕ) → P (get_or ks k no_node) → P no_node → Dec (k < n) → P (get_or (take n ks) k no_node)
    each P k p q (yes g) = subst P (sym (get_or-take n ks k no_node g)) p
    each P k p q (no g) = subst P (sym (get_or-eq_default (take n ks) no_node {n = k} (omega (arith, length-take-le n ks h)))) q

module _ {ks : List NodeRecord} {at end : ℕ} (e : EndOfPost ks at end) where
  pub held_front : table_rows (take end ks) at ≡ table_rows ks at
  held_front = held_take ks at end e.after e.stops

  pub ready_front : {es : List Entry} {rs : List RowEnd} → TableReady ks at es rs → TableReady (take end ks) at es rs
  ready_front {es} z =
      let l = length-take-le end ks e.within in
      record {
        within = omega (arith, e.after);
        lined = lined_take end e.within z.lined;
        sound = subst Sound (sym held_front) z.sound;
        entry_capacity = subst (λ (t : List cells.Row). entry_count (all_rows t) ≤ length es) (sym held_front) z.entry_capacity;
        row_capacity = omega (arith, e.within, z.row_capacity);
      }
