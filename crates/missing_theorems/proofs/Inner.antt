-- What stands in a cell, and in no table in it, is no wider at the least than the cell: a line is no wider than its parent, which keeps the largest of its
-- children's least widths, and the parents on the way are neither bodies nor rows, since these stand only in tables.
use mathlib.Core.Path.{◌≡◌, refl, ap, ◌∙◌}
use mathlib.Core.Bool.{Bool, true, false, cond, true≢false}
use mathlib.Core.List.{List, [], ◌∷◌}
use Prim.Native.Nat.{ℕ, zero, suc, ◌+◌, ◌-◌, ◌≤◌, ◌<◌, min}
use native.Mathlib.Nat.{not-suc-le-zero, le_of_suc-le-suc}
use native.Mathlib.Omega.{arith}
use lib.Dec.{leb, eqb}
use lib.ListN.{length, get_or, drop, length-drop}
use lib.Seq.{get_or-drop}
use borrow.Author.Tests.{lt-leb, eq-eqb, ne_eqb}
use Rattle.records.specs.Parents.{Parent}
use Rattle.kinds.specs.Kinds.{kind_number, has_text, is_leaf, is_frame, link_kind, table_kind, body_kind, row_kind, cell_kind}
use Rattle.records.specs.declared.NodeRecord.{NodeRecord}
use Rattle.estimates.specs.Estimates.{MeasuredNode, unmeasured, estimate, add, Children, no_children, with_child, gather, leaf_of, prefix_of, prefixed, holder_of, estimate_of}
use Rattle.estimates.specs.inner.Sheet.{line_at}
use Rattle.estimates.specs.inner.Cycle.{est_at, done_of}
use Rattle.estimates.proofs.Laws.{length_all, line_of, est_of}
use Rattle.estimates.proofs.Nesting.{allowed}
use Rattle.grid_bounds.specs.inner.Sheets.{Nests}
use Rattle.missing_theorems.specs.Missing.{Inside, itself, below}
use Rattle.kinds.specs.declared.Kind.{Kind}

-- ---- a child's least width is among those that its parent gathers

abbrev child_depth : List MeasuredNode → ℕ → ℕ
child_depth ms k = (get_or ms k unmeasured).line.depth

gather_keeps : (d : ℕ) (a : Children) (ms : List MeasuredNode) → a.est.least ≤ (gather d a ms).est.least
unfolding gather
gather_keeps d a [] = omega arith
gather_keeps d a (m ∷ ms) = go (leb m.line.depth d) (eqb m.line.depth (d + 1)) (gather_keeps d a ms) (gather_keeps d (with_child a m) ms)
  where
    go : (p q : Bool) → a.est.least ≤ (gather d a ms).est.least → (with_child a m).est.least ≤ (gather d (with_child a m) ms).est.least
        → a.est.least ≤ (cond p a (gather d (cond q (with_child a m) a) ms)).est.least
    go true q f g = omega arith
    go false true f g = omega (arith, g)
    go false false f g = f

gather_child : (d : ℕ) (a : Children) (ms : List MeasuredNode) (k : ℕ) → k < length ms → child_depth ms k ≡ d + 1 → ((j : ℕ) → j < k → d < child_depth ms j)
    → (get_or ms k unmeasured).est.least ≤ (gather d a ms).est.least
unfolding gather
gather_child d a [] k h e f = absurd (not-suc-le-zero h)
gather_child d a (m ∷ ms) zero h e f =
    rw (lt-leb m.line.depth d (omega arith), eq-eqb m.line.depth (d + 1) e) (omega (arith, gather_keeps d (with_child a m) ms))
gather_child d a (m ∷ ms) (suc k) h e f =
    rw (lt-leb m.line.depth d (f 0 (omega arith)))
    (gather_child d (cond (eqb m.line.depth (d + 1)) (with_child a m) a) ms k (le_of_suc-le-suc h) e (λ j l. f (suc j) (omega arith)))

holder_keeps : (l : NodeRecord) (c : Children) → c.est.least ≤ (holder_of l c).least
unfolding holder_of
holder_keeps l c = go (eqb (kind_number l.kind) link_kind)
  where
    go : (b : Bool) → c.est.least ≤ (cond b (add c.est (estimate 5 5 0)) (prefixed (prefix_of l c.count) c.est)).least
    go true = omega arith
    go false = omega arith

-- ---- the lines of a sheet

-- a line that holds others, and is no part of a table but its cell
record Holds (kind : Kind) : Type 0 where
  pub leaf : is_leaf kind ≡ false
  pub body : kind_number kind ≡ body_kind → ⊥
  pub row : kind_number kind ≡ row_kind → ⊥
  pub table : kind_number kind ≡ table_kind → ⊥

module _ (wrap : ℕ) (ks : List NodeRecord) where
  abbrev es : List MeasuredNode
  es = done_of wrap ks

  -- what such a line gathers
  abbrev held : ℕ → Children
  held p = gather (line_at ks p).depth no_children (drop (suc p) es)

  holder_is : (p : ℕ) → p < length ks → Holds (line_at ks p).kind → est_at es p ≡ holder_of (line_at ks p) (held p)
  unfolding estimate_of
  holder_is p h w =
      est_of wrap ks p h
      ∙ rw (w.leaf, ne_eqb (kind_number (line_at ks p).kind) body_kind w.body, ne_eqb (kind_number (line_at ks p).kind) row_kind w.row, ne_eqb (kind_number (line_at ks p).kind) table_kind w.table)

  parent_least : (p i : ℕ) → Parent ks p i → Holds (line_at ks p).kind → (est_at es i).least ≤ (est_at es p).least
  parent_least p i r w =
      let h : p < length ks = omega (arith, r.before, r.within) in
      let k = i - suc p in
      let e : suc p + k ≡ i = omega (arith, r.before) in
      let c : get_or (drop (suc p) es) k unmeasured ≡ get_or es i unmeasured = get_or-drop (suc p) es k unmeasured ∙ ap (λ (n : ℕ). get_or es n unmeasured) e in
      let n = length-drop (suc p) es in
      let g =
      gather_child (line_at ks p).depth no_children (drop (suc p) es) k (omega (arith, r.within, length_all wrap ks))
      (ap (λ (m : MeasuredNode). m.line.depth) c ∙ ap (λ (l : NodeRecord). l.depth) (line_of wrap ks i r.within) ∙ r.deeper)
      (λ j l. deeper j (omega (arith, r.within)) (omega arith)) in
      rw (holder_is p h w)
      (omega (arith, ap (λ (m : MeasuredNode). m.est.least) c, g, holder_keeps (line_at ks p) (held p)))
    where
      deeper : (j : ℕ) → suc p + j < length ks → suc p + j < i → (line_at ks p).depth < child_depth (drop (suc p) es) j
      deeper j h l =
          omega (
            arith,
            ap (λ (m : MeasuredNode). m.line.depth) (get_or-drop (suc p) es j unmeasured),
            ap (λ (k : NodeRecord). k.depth) (line_of wrap ks (suc p + j) h),
            r.between (suc p + j) (omega arith) l,
          )

  -- a line with text, and a link
  text_least : (i : ℕ) → i < length ks → has_text (line_at ks i).kind ≡ true → (est_at es i).least ≡ min (est_at es i).size wrap
  unfolding estimate_of leaf_of
  text_least i h t = rw (est_of wrap ks i h, t)

  link_least : (i : ℕ) → i < length ks → kind_number (line_at ks i).kind ≡ link_kind → 5 ≤ (est_at es i).least
  unfolding holder_of
  link_least i h e =
      let w : Holds (line_at ks i).kind = record { leaf = rw e refl; body = λ z. omega arith; row = λ z. omega arith; table = λ z. omega arith } in
      rw (holder_is i h w, e) (omega arith)

  -- ---- from a cell down

  -- what is known of a line in a cell
  pub record In (c i : ℕ) : Type 0 where
    pub within : i < length ks
    pub least : (est_at es i).least ≤ (est_at es c).least
    pub body : kind_number (line_at ks i).kind ≡ body_kind → ⊥
    pub row : kind_number (line_at ks i).kind ≡ row_kind → ⊥

  no_frame : (k : Kind) → is_frame k ≡ false → (kind_number k ≡ body_kind → ⊥) × (kind_number k ≡ row_kind → ⊥)
  no_frame k f = (λ e. true≢false (rw e at f), λ e. true≢false (rw e at f))

  pub inside_in : Nests ks → (c : ℕ) → c < length ks → kind_number (line_at ks c).kind ≡ cell_kind → (i : ℕ) → Inside ks c i → In c i
  inside_in z c h e _ itself = record { within = h; least = omega arith; body = λ f. omega arith; row = λ f. omega arith }
  inside_in z c h e _ (below p i s n r) =
      let q = inside_in z c h e p s in
      let a =
      allowed (line_at ks p).kind (line_at ks i).kind
      (z.holds p i (record { before = r.before; within = r.within; deeper = r.deeper; between = r.between })) in
      let f = no_frame (line_at ks i).kind (a.elsewhere n q.body q.row) in
      record {
        within = r.within;
        least = omega (arith, q.least, parent_least p i r (record { leaf = a.holder; body = q.body; row = q.row; table = n }));
        body = f.0;
        row = f.1;
      }

  pub text_in : (c i : ℕ) → In c i → has_text (line_at ks i).kind ≡ true → min (est_at es i).size wrap ≤ (est_at es c).least
  text_in c i q t = omega (arith, q.least, text_least i q.within t)

  pub link_in : (c i : ℕ) → In c i → kind_number (line_at ks i).kind ≡ link_kind → 5 ≤ (est_at es c).least
  link_in c i q e = omega (arith, q.least, link_least i q.within e)
