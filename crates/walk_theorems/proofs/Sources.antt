-- Where a line's width comes from: the first line has the page's; any other what its parent passes on, but a cell what its table gives it, and the
-- cell's parent, a row, has its table's width.
use Rattle.std.specs.Prelude.{None, Option, Some}
use mathlib.Core.Path.{◌≡◌, refl, sym, ap, ◌∙◌}
use mathlib.Core.Bool.{false}
use mathlib.Core.List.{List}
use Prim.Native.Nat.{ℕ, suc, ◌-◌, ◌≤◌, ◌<◌}
use native.Mathlib.Decide.{dec_lt, ℕ_discrete}
use native.Mathlib.Omega.{arith}
use lib.ListN.{length, get_or}
use borrow.Author.Tests.{eq-eqb, ne_eqb}
use Rattle.text.specs.declared.Estimate.{Estimate}
use Rattle.kinds.specs.Kinds.{kind_number, table_kind, body_kind, row_kind, cell_kind}
use Rattle.records.specs.NodeRecord.{no_node}
use Rattle.records.specs.Parents.{Parent}
use Rattle.records.specs.declared.NodeRecord.{NodeRecord}
use Rattle.estimates.specs.Estimates.{none, estimates}
use Rattle.estimates.specs.inner.Sheet.{Sheet}
use Rattle.estimates.proofs.Nesting.{may, parent}
use Rattle.available_width.specs.Walk.{takes_off, passed_on, cell_width, passed_by, line_width, walk_to, walk}
use Rattle.width_walk.specs.inner.Steps.{CellIn}
use Rattle.width_walk.proofs.Lines.{walk_last, walk_stays, nearest_is, InTable, cell_table, cell_nearest}
use Rattle.walk_theorems.specs.Descent.{StandsIn}
use Rattle.walk_theorems.proofs.Standing.{of_parent, stands_on}
use Rattle.kinds.specs.declared.Kind.{Kind}

-- a line that takes off nothing passes on what it has
all_on : (kind : Kind) (e : Estimate) (w : Option ℕ) → takes_off kind ≡ false → passed_on kind e w ≡ w
unfolding passed_on
all_on kind e None n = refl
all_on kind e (Some w) n = rw n

off_table : (kind : Kind) → kind_number kind ≡ table_kind → takes_off kind ≡ false
unfolding takes_off
off_table kind e = rw e

off_body : (kind : Kind) → kind_number kind ≡ body_kind → takes_off kind ≡ false
unfolding takes_off
off_body kind e = rw e

module _ (wrap raw root : ℕ) {ks : List NodeRecord} (w : Sheet ks) where
  abbrev W : ℕ → Option ℕ
  W i = get_or (walk wrap raw root ks) i None

  abbrev F : ℕ → List (Option ℕ)
  F i = walk_to wrap raw root ks i

  front : (i k : ℕ) → k < i → i ≤ length ks → get_or (walk_to wrap raw root ks i) k None ≡ get_or (walk wrap raw root ks) k None
  front i k a b = sym (walk_stays wrap raw root ks (length ks) i k a b)

  own : (i : ℕ) → i < length ks → get_or (walk wrap raw root ks) i None ≡ line_width wrap raw root ks (walk_to wrap raw root ks i) i
  own i h = walk_stays wrap raw root ks (length ks) (suc i) i (omega arith) h ∙ walk_last wrap raw root ks i

  pub page_width : get_or (walk wrap raw root ks) 0 None ≡ Some root
  unfolding line_width
  page_width = own 0 w.some

  pub from_parent : (p i : ℕ) → Parent ks p i → (kind_number (get_or ks i no_node).kind ≡ cell_kind → ⊥)
      → get_or (walk wrap raw root ks) i None ≡ passed_on (get_or ks p no_node).kind (get_or (estimates wrap ks) p none) (get_or (walk wrap raw root ks) p None)
  unfolding line_width
  from_parent p i r n =
      own i r.within
      ∙ rw (ne_eqb i 0 (λ e. omega (arith, r.before)), ne_eqb (kind_number (get_or ks i no_node).kind) cell_kind n)
      (nearest_is (passed_by wrap ks (F i)) ks ((get_or ks i no_node).depth - 1) i p r.before (omega (arith, r.deeper))
      (λ k a b e. omega (arith, r.between k a b, r.deeper))
      ∙ ap (passed_on (get_or ks p no_node).kind (get_or (estimates wrap ks) p none)) (front i p r.before (omega (arith, r.within))))

  pub from_table : (i : ℕ) → kind_number (get_or ks i no_node).kind ≡ cell_kind → (c : InTable ks i)
      → get_or (walk wrap raw root ks) i None ≡ cell_width wrap raw ks c.table (get_or (walk wrap raw root ks) c.table None) i
  unfolding line_width
  from_table i e c =
      let o = c.cell.1 in
      own i o.within
      ∙ rw (ne_eqb i 0 (λ e. omega (arith, o.before)), eq-eqb (kind_number (get_or ks i no_node).kind) cell_kind e)
      (cell_nearest w (λ t. cell_width wrap raw ks t (get_or (F i) t None) i) i c
      ∙ ap (λ (v : Option ℕ). cell_width wrap raw ks c.table v i) (front i c.table o.before (omega (arith, o.within))))

  -- the row, the body and the table of a cell have one width
  module _ (p i t : ℕ) (r : Parent ks p i) (c : CellIn ks t i) where
    body : (y : ℕ) × Parent ks y p
    body = parent w p (omega (arith, r.before, r.within)) (omega (arith, r.deeper, c.1.deeper))

    table : (z : ℕ) × Parent ks z body.0
    table = parent w body.0 (omega (arith, body.1.before, r.before, r.within)) (omega (arith, body.1.deeper, r.deeper, c.1.deeper))

    same_table : table.0 ≡ t
    same_table = go (dec_lt table.0 t) (dec_lt t table.0)
      where
        inside : StandsIn ks table.0 i
        inside = stands_on (of_parent table.1) (stands_on (of_parent body.1) (of_parent r))

        go : Dec (table.0 < t) → Dec (t < table.0) → table.0 ≡ t
        go (yes a) b = absurd (omega (arith, inside.deeper t a (omega (arith, c.1.before)), table.1.deeper, body.1.deeper, r.deeper, c.1.deeper))
        go (no a) (yes b) = absurd (omega (arith, c.1.between table.0 b inside.after, table.1.deeper, body.1.deeper, r.deeper, c.1.deeper))
        go (no a) (no b) = omega arith

    body_in : Parent ks t body.0
    body_in = rw same_table at table.1

    body_kind_lem : kind_number (get_or ks body.0 no_node).kind ≡ body_kind
    body_kind_lem = (may w t body.0 body_in).in_table c.0

    row_kind_lem : kind_number (get_or ks p no_node).kind ≡ row_kind
    row_kind_lem = (may w body.0 p body.1).in_body body_kind_lem

    pub row_width : get_or (walk wrap raw root ks) p None ≡ get_or (walk wrap raw root ks) t None
    row_width =
        from_parent body.0 p body.1 (λ e. omega (arith, row_kind_lem))
        ∙ all_on (get_or ks body.0 no_node).kind (get_or (estimates wrap ks) body.0 none) (W body.0) (off_body (get_or ks body.0 no_node).kind body_kind_lem)
        ∙ from_parent t body.0 body_in (λ e. omega (arith, body_kind_lem))
        ∙ all_on (get_or ks t no_node).kind (get_or (estimates wrap ks) t none) (W t) (off_table (get_or ks t no_node).kind c.0)

  -- what has no width passes on none
  pub none_on : (p i : ℕ) → Parent ks p i → get_or (walk wrap raw root ks) p None ≡ None → get_or (walk wrap raw root ks) i None ≡ None
  unfolding passed_on cell_width
  none_on p i r q = go (ℕ_discrete (kind_number (get_or ks i no_node).kind) cell_kind)
    where
      go : Dec (kind_number (get_or ks i no_node).kind ≡ cell_kind) → W i ≡ None
      go (yes c) =
          let t = cell_table w i r.within c in
          from_table i c t
          ∙ ap (λ (u : Option ℕ). cell_width wrap raw ks t.table u i) (sym (row_width p i t.table r t.cell) ∙ q)
      go (no c) =
          from_parent p i r c ∙ ap (passed_on (get_or ks p no_node).kind (get_or (estimates wrap ks) p none)) q
