-- A line has no width exactly if it is a missing cell or stands in one: a missing cell has none, what has none passes on none, and where the parent
-- has a width only a missing cell has none.
use Rattle.std.specs.Prelude.{None, Option, Some}
use mathlib.Core.Path.{◌≡◌, refl, sym, ap, ◌∙◌}
use mathlib.Core.List.{List}
use mathlib.Core.Logic.{◌⊎◌, inl, inr}
use Prim.Native.Nat.{ℕ, zero, suc, ◌<◌}
use native.Mathlib.Decide.{ℕ_discrete}
use native.Mathlib.Nat.{not-suc-le-zero}
use native.Mathlib.Omega.{arith}
use lib.ListN.{length, get_or}
use Rattle.text.specs.declared.Estimate.{Estimate}
use Rattle.kinds.specs.Kinds.{kind_number, cell_kind}
use Rattle.records.specs.NodeRecord.{no_node}
use Rattle.records.specs.Parents.{Parent}
use Rattle.records.specs.declared.NodeRecord.{NodeRecord}
use Rattle.estimates.specs.Estimates.{none, estimates}
use Rattle.estimates.specs.inner.Sheet.{Sheet}
use Rattle.estimates.proofs.Nesting.{parent}
use Rattle.available_width.specs.Walk.{passed_on, cell_width, walk}
use Rattle.width_walk.proofs.Lines.{one_table, cell_table}
use Rattle.walk_theorems.specs.Descent.{StandsIn, MissingCell, InMissing, WithoutWidth}
use Rattle.walk_theorems.proofs.Standing.{of_parent, stands_on, up}
use Rattle.walk_theorems.proofs.Sources.{page_width, from_parent, from_table, row_width, none_on}
use Rattle.kinds.specs.declared.Kind.{Kind}

-- what has a width passes one on
some_on : (kind : Kind) (e : Estimate) (v : ℕ) → passed_on kind e (Some v) ≡ None → ⊥
unfolding passed_on
some_on kind e v q = let z : ◌≡◌ {A = ℕ} 0 1 = cc in omega arith

module _ (wrap raw root : ℕ) {ks : List NodeRecord} (w : Sheet ks) where
  abbrev W : ℕ → Option ℕ
  W i = get_or (walk wrap raw root ks) i None

  abbrev In : ℕ → Type 0
  In i = InMissing wrap raw root ks i

  -- ---- what stands in a missing cell

  missing_none : (c : ℕ) → MissingCell wrap raw root ks c → get_or (walk wrap raw root ks) c None ≡ None
  missing_none c m =
      let t = cell_table w c m.of_table.within m.is_cell in
      from_table wrap raw root w c m.is_cell t
      ∙ ap (λ (x : ℕ). cell_width wrap raw ks x (W x) c) (one_table t.table m.table c t.cell.1 m.of_table)
      ∙ ap (λ (u : Option ℕ). cell_width wrap raw ks m.table u c) m.table_width
      ∙ m.left_out

  none_inside : (n c i : ℕ) → i < n → StandsIn ks c i → get_or (walk wrap raw root ks) c None ≡ None → get_or (walk wrap raw root ks) i None ≡ None
  none_inside zero c i h s a = absurd (not-suc-le-zero h)
  none_inside (suc n) c i h s a =
      let r = parent w i s.within (w.under i (omega (arith, s.after)) s.within) in
      none_on wrap raw root w r.0 i r.1 (go r.0 (up s r.1) (λ y. none_inside n c r.0 (omega (arith, r.1.before)) y a))
    where
      go : (p : ℕ) → (c ≡ p) ⊎ StandsIn ks c p → (StandsIn ks c p → W p ≡ None) → W p ≡ None
      go p (inl e) ih = ap W (sym e) ∙ a
      go p (inr y) ih = ih y

  if_missing : (i : ℕ) → InMissing wrap raw root ks i → get_or (walk wrap raw root ks) i None ≡ None
  if_missing i m = go m.inside
    where
      go : (m.cell ≡ i) ⊎ StandsIn ks m.cell i → W i ≡ None
      go (inl e) = ap W (sym e) ∙ missing_none m.cell m.missing
      go (inr s) = none_inside (suc i) m.cell i (omega arith) s (missing_none m.cell m.missing)

  -- ---- what has no width

  in_parent : (p i : ℕ) → Parent ks p i → InMissing wrap raw root ks p → InMissing wrap raw root ks i
  in_parent p i r m = record { cell = m.cell; missing = m.missing; inside = inr (go m.inside) }
    where
      go : (m.cell ≡ p) ⊎ StandsIn ks m.cell p → StandsIn ks m.cell i
      go (inl e) = rw e (of_parent r)
      go (inr s) = stands_on s (of_parent r)

  -- where the parent has a width
  missing_here : (p i v : ℕ) → Parent ks p i → get_or (walk wrap raw root ks) p None ≡ Some v → get_or (walk wrap raw root ks) i None ≡ None → InMissing wrap raw root ks i
  missing_here p i v r a b = go (ℕ_discrete (kind_number (get_or ks i no_node).kind) cell_kind)
    where
      go : Dec (kind_number (get_or ks i no_node).kind ≡ cell_kind) → In i
      go (yes c) =
          let t = cell_table w i r.within c in
          let f : W t.table ≡ Some v = sym (row_width wrap raw root w p i t.table r t.cell) ∙ a in
          record {
            cell = i;
            missing = record {
              is_cell = c;
              table = t.table;
              of_table = t.cell.1;
              width = v;
              table_width = f;
              left_out = ap (λ (u : Option ℕ). cell_width wrap raw ks t.table u i) (sym f) ∙ sym (from_table wrap raw root w i c t) ∙ b;
            };
            inside = inl refl;
          }
      go (no c) =
          absurd (some_on (get_or ks p no_node).kind (get_or (estimates wrap ks) p none) v
          (ap (passed_on (get_or ks p no_node).kind (get_or (estimates wrap ks) p none)) (sym a) ∙ sym (from_parent wrap raw root w p i r c) ∙ b))

  then_missing : (n i : ℕ) → i < n → i < length ks → get_or (walk wrap raw root ks) i None ≡ None → InMissing wrap raw root ks i
  then_missing zero i h l b = absurd (not-suc-le-zero h)
  then_missing (suc n) i h l b = go (ℕ_discrete i 0) (λ p r q. then_missing n p (omega (arith, r.before)) (omega (arith, r.before)) q)
    where
      at : (p : ℕ) → Parent ks p i → (z : Option ℕ) → W p ≡ z → (W p ≡ None → In p) → In i
      at p r None q ih = in_parent p i r (ih q)
      at p r (Some v) q ih = missing_here p i v r q b

      go : Dec (i ≡ 0) → ((p : ℕ) → Parent ks p i → W p ≡ None → In p) → In i
      go (yes e) ih = let z = sym (page_width wrap raw root w) ∙ ap W (sym e) ∙ b in let y : ◌≡◌ {A = ℕ} 0 1 = cc in absurd (omega arith)
      go (no e) ih = let r = parent w i l (w.under i (omega arith) l) in at r.0 r.1 (W r.0) refl (ih r.0 r.1)

  pub without : WithoutWidth wrap raw root ks
  without = record { then_missing = λ i l b. then_missing (suc i) i (omega arith) l b; if_missing = if_missing }
