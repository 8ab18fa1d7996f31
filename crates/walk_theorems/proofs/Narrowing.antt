-- With overflow off no line is wider than its parent, so none is wider than a line that it stands in, nor than the page.
use Rattle.std.specs.Prelude.{None, Option, Some}
use mathlib.Core.Path.{◌≡◌, refl, sym, ap, ◌∙◌}
use mathlib.Core.Bool.{Bool, true, false, cond, ◌&&◌}
use mathlib.Core.List.{List, map}
use mathlib.Core.Logic.{◌⊎◌, inl, inr}
use Prim.Native.Nat.{ℕ, zero, suc, ◌+◌, ◌-◌, ◌≤◌, ◌<◌, max}
use native.Mathlib.Decide.{dec_lt, ℕ_discrete}
use native.Mathlib.Nat.{not-suc-le-zero}
use native.Mathlib.Omega.{arith}
use lib.Dec.{ltb}
use lib.ListN.{length, get_or, drop}
use borrow.Author.Tests.{ltb-false}
use Rattle.common.specs.declared.Reason.TheVariants.{TooNarrow}
use Rattle.common.specs.Refusals.{check, passes}
use Rattle.common.proofs.All.{all_drop}
use Rattle.text.specs.declared.Estimate.{Estimate}
use Rattle.kinds.specs.Kinds.{kind_number, table_kind, cell_kind}
use Rattle.records.specs.NodeRecord.{no_node}
use Rattle.records.specs.Parents.{Parent}
use Rattle.records.specs.declared.NodeRecord.{NodeRecord}
use Rattle.sheet.proofs.First.{passes_both}
use Rattle.resolved_rows.specs.Listed.{table_rows}
use Rattle.grid.specs.Grid.{shown_line, entries_of, grid_of, columns_of}
use Rattle.grid.specs.Facts.{Sound}
use Rattle.grid.proofs.GridFacts.{held_spanned, grid_tiles}
use Rattle.estimates.specs.Estimates.{none, measured, estimates}
use Rattle.estimates.specs.inner.Sheet.{Sheet}
use Rattle.estimates.proofs.Nesting.{parent}
use Rattle.table_layout.specs.inner.Grids.{Fits}
use Rattle.table_layout.specs.Laying.{places_in}
use Rattle.table_layout.specs.Arranging.{boxes_at}
use Rattle.table_layout.proofs.Boxes.{tiles_of_grid}
use Rattle.missing_theorems.proofs.Fits.{measured_fits}
use Rattle.available_width.specs.Walk.{takes_off, passed_on, too_narrow, width_in, cell_width, walk, narrow_at, narrow_from, narrow_checks}
use Rattle.width_walk.specs.inner.Steps.{AtMost}
use Rattle.width_walk.proofs.Lines.{walk_past, cell_table}
use Rattle.width_walk.proofs.Smaller.{most_printed, table_low}
use Rattle.walk_theorems.specs.Descent.{StandsIn, Narrowing}
use Rattle.walk_theorems.proofs.Standing.{up}
use Rattle.walk_theorems.proofs.Sources.{page_width, from_parent, from_table, row_width, none_on}
use Rattle.kinds.specs.declared.Kind.{Kind}

-- ---- one line

-- a line that is not too narrow passes on no more than it has
passed_less : (kind : Kind) (e : Estimate) (v x : ℕ) → too_narrow kind e (Some v) ≡ false → passed_on kind e (Some v) ≡ Some x → x ≤ v
unfolding passed_on too_narrow
passed_less kind e v x = go (takes_off kind)
  where
    go : (b : Bool) → (b && ltb (v - e.prefix) (e.least - e.prefix)) ≡ false → Some (cond b (max (v - e.prefix) (e.least - e.prefix)) v) ≡ Some x → x ≤ v
    go true n q =
        let z : max (v - e.prefix) (e.least - e.prefix) ≡ x = cc in
        omega (arith, ltb-false (v - e.prefix) (e.least - e.prefix) n)
    go false n q = let z : v ≡ x = cc in omega arith

most_wide : (m : ℕ) (w : Option ℕ) (x : ℕ) → w ≡ Some x → AtMost m w → x ≤ m
unfolding AtMost
most_wide m w x e h = rw e at h

-- no cell is wider than its table
cell_less : (wrap raw : ℕ) (ks : List NodeRecord) (t v i x : ℕ) → Sound (table_rows ks t) → cell_width wrap raw ks t (Some v) i ≡ Some x → x ≤ v
unfolding cell_width
cell_less wrap raw ks t v i x s e =
    most_wide v _ x e
    (most_printed v (map shown_line (entries_of (grid_of (table_rows ks t)))) (map width_in (places_in (columns_of (table_rows ks t)) (boxes_at wrap ks t) raw v)) (i + 1)
    (table_low (columns_of (table_rows ks t)) (boxes_at wrap ks t) raw v
    (tiles_of_grid (t + 1) (drop (t + 1) (measured wrap 1 ks)) (columns_of (table_rows ks t)) (grid_of (table_rows ks t))
    (grid_tiles (table_rows ks t) s (held_spanned ks t))
    (all_drop Fits (t + 1) (measured wrap 1 ks) (measured_fits wrap 1 ks)))))

-- ---- the walk

module _ (wrap raw root : ℕ) {ks : List NodeRecord} (w : Sheet ks) (sound : (t : ℕ) → t < length ks → kind_number (get_or ks t no_node).kind ≡ table_kind → Sound (table_rows ks t))
    (wide : passes (narrow_checks wrap raw root 0 ks) ≡ true) where
  abbrev W : ℕ → Option ℕ
  W i = get_or (walk wrap raw root ks) i None

  wide_from : (n i k : ℕ) → passes (narrow_from wrap raw root 0 ks n i) ≡ true → i ≤ k → k < i + n → narrow_at wrap raw root ks k ≡ false
  unfolding narrow_from
  wide_from zero i k p a b = absurd (omega arith)
  wide_from (suc n) i k p a b =
      let (q, r) = passes_both (check (narrow_at wrap raw root ks i) TooNarrow (i + 1)) (narrow_from wrap raw root 0 ks n (i + 1)) p in
      go (ℕ_discrete i k) q (λ c. wide_from n (i + 1) k r c (omega arith))
    where
      go : Dec (i ≡ k) → narrow_at wrap raw root ks i ≡ false → (i + 1 ≤ k → narrow_at wrap raw root ks k ≡ false) → narrow_at wrap raw root ks k ≡ false
      go (yes e) q f = rw e at q
      go (no e) q f = f (omega arith)

  -- no line is wider than its parent
  parent_less : (p i v x : ℕ) → Parent ks p i → get_or (walk wrap raw root ks) p None ≡ Some v → get_or (walk wrap raw root ks) i None ≡ Some x → x ≤ v
  parent_less p i v x r a b = go (ℕ_discrete (kind_number (get_or ks i no_node).kind) cell_kind)
    where
      e : Estimate
      e = get_or (estimates wrap ks) p none

      kind : Kind
      kind = (get_or ks p no_node).kind

      go : Dec (kind_number (get_or ks i no_node).kind ≡ cell_kind) → x ≤ v
      go (yes c) =
          let t = cell_table w i r.within c in
          let o = t.cell.1 in
          let f : W t.table ≡ Some v = sym (row_width wrap raw root w p i t.table r t.cell) ∙ a in
          cell_less wrap raw ks t.table v i x (sound t.table (omega (arith, o.before, o.within)) t.cell.0)
          (ap (λ (u : Option ℕ). cell_width wrap raw ks t.table u i) (sym f) ∙ sym (from_table wrap raw root w i c t) ∙ b)
      go (no c) =
          passed_less kind e v x (ap (too_narrow kind e) (sym a) ∙ wide_from (length ks) 0 p wide (omega arith) (omega (arith, r.before, r.within)))
          (ap (passed_on kind e) (sym a) ∙ sym (from_parent wrap raw root w p i r c) ∙ b)

  -- none than a line that it stands in
  less_inside : (n c i v x : ℕ) → i < n → StandsIn ks c i → get_or (walk wrap raw root ks) c None ≡ Some v → get_or (walk wrap raw root ks) i None ≡ Some x → x ≤ v
  less_inside zero c i v x h s a b = absurd (not-suc-le-zero h)
  less_inside (suc n) c i v x h s a b =
      let r = parent w i s.within (w.under i (omega (arith, s.after)) s.within) in
      go r.0 r.1 (W r.0) refl (up s r.1) (λ y u q. less_inside n c r.0 v u (omega (arith, r.1.before)) y a q)
    where
      go : (p : ℕ) → Parent ks p i → (z : Option ℕ) → W p ≡ z → (c ≡ p) ⊎ StandsIn ks c p → (StandsIn ks c p → (u : ℕ) → W p ≡ Some u → u ≤ v) → x ≤ v
      go p r z q (inl e) ih = parent_less p i v x r (ap W (sym e) ∙ a) b
      go p r (Some u) q (inr y) ih = omega (arith, parent_less p i u x r q b, ih y u q)
      go p r None q (inr y) ih = let z = sym (none_on wrap raw root w p i r q) ∙ b in let y : ◌≡◌ {A = ℕ} 0 1 = cc in absurd (omega arith)

  -- none than the page
  page_less : (i x : ℕ) → get_or (walk wrap raw root ks) i None ≡ Some x → x ≤ root
  page_less i x b = go (ℕ_discrete i 0) (dec_lt i (length ks))
    where
      go : Dec (i ≡ 0) → Dec (i < length ks) → x ≤ root
      go (yes e) l = let z = sym (page_width wrap raw root w) ∙ ap W (sym e) ∙ b in let y : root ≡ x = cc in omega arith
      go (no e) (no l) = let z = sym (walk_past wrap raw root ks (length ks) i (omega arith)) ∙ b in let y : ◌≡◌ {A = ℕ} 0 1 = cc in absurd (omega arith)
      go (no e) (yes l) =
          less_inside (suc i) 0 i root x (omega arith)
          (record { after = omega arith; within = l; deeper = λ k a c. omega (arith, w.top, w.under k a (omega arith)) })
          (page_width wrap raw root w) b

  pub narrowing : Narrowing wrap raw root ks
  narrowing = record { inside = λ c i v x s a b. less_inside (suc i) c i v x (omega arith) s a b; page = λ i x b. omega (arith, page_less i x b) }
