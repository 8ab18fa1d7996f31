-- The walk on plain lists: its front stays, the nearest line of a depth, and the table of a cell.
use Rattle.std.specs.Prelude.{None, Option}
use mathlib.Core.Path.{◌≡◌, refl, sym, ap, ◌∙◌}
use mathlib.Core.Bool.{true, cond, true≢false}
use mathlib.Core.List.{List, [], ◌∷◌}
use Prim.Native.Nat.{ℕ, zero, suc, ◌-◌, ◌≤◌, ◌<◌}
use native.Mathlib.Nat.{not-suc-le-zero}
use native.Mathlib.Decide.{dec_lt, ℕ_discrete}
use native.Mathlib.Omega.{arith}
use lib.Dec.{eqb}
use lib.ListN.{length, get_or, length-append, get_or-append}
use lib.Seq.{get_or_at}
use borrow.Author.Tests.{eq-eqb, ne_eqb}
use Rattle.kinds.specs.Kinds.{kind_number, table_kind, body_kind, row_kind, cell_kind, is_frame}
use Rattle.records.specs.NodeRecord.{no_node}
use Rattle.records.specs.declared.NodeRecord.{NodeRecord}
use Rattle.grid.specs.Facts.{CellOf}
use Rattle.records.specs.Parents.{Parent}
use Rattle.estimates.specs.inner.Sheet.{Sheet, line_at}
use Rattle.estimates.proofs.Nesting.{Allowed, may, parent}
use Rattle.available_width.specs.Walk.{from_nearest, line_width, walk_to}
use Rattle.width_walk.specs.inner.Steps.{CellIn}
use Rattle.kinds.specs.declared.Kind.{Kind}

-- ---- the front of a walk

pub past_end : {A : Type 0} (d : A) (xs : List A) (k : ℕ) → length xs ≤ k → get_or xs k d ≡ d
past_end d [] k h = refl
past_end d (x ∷ xs) zero h = absurd (not-suc-le-zero h)
past_end d (x ∷ xs) (suc k) h = past_end d xs k (omega arith)

module _ (wrap raw root : ℕ) (ks : List NodeRecord) where
  abbrev W : ℕ → List (Option ℕ)
  W n = walk_to wrap raw root ks n

  pub length_walk : (n : ℕ) → length (walk_to wrap raw root ks n) ≡ n
  unfolding walk_to
  length_walk zero = refl
  length_walk (suc n) = length-append (W n) (line_width wrap raw root ks (W n) n ∷ []) ∙ omega (arith, length_walk n)

  pub walk_past : (n k : ℕ) → n ≤ k → get_or (walk_to wrap raw root ks n) k None ≡ None
  walk_past n k h = past_end None (W n) k (omega (arith, length_walk n))

  pub walk_last : (n : ℕ) → get_or (walk_to wrap raw root ks (suc n)) n None ≡ line_width wrap raw root ks (walk_to wrap raw root ks n) n
  unfolding walk_to
  walk_last n = get_or_at (W n) (line_width wrap raw root ks (W n) n) [] None n (length_walk n)

  -- a line more changes no other's width
  pub walk_at : (n k : ℕ) → (k ≡ n → ⊥) → get_or (walk_to wrap raw root ks (suc n)) k None ≡ get_or (walk_to wrap raw root ks n) k None
  unfolding walk_to
  walk_at n k h = go (dec_lt k n)
    where
      front : k < n → get_or (walk_to wrap raw root ks (suc n)) k None ≡ get_or (walk_to wrap raw root ks n) k None
      front l = get_or-append (W n) (line_width wrap raw root ks (W n) n ∷ []) None k (omega (arith, length_walk n))

      go : Dec (k < n) → get_or (walk_to wrap raw root ks (suc n)) k None ≡ get_or (walk_to wrap raw root ks n) k None
      go (yes l) = front l
      go (no l) = walk_past (suc n) k (omega arith) ∙ sym (walk_past n k (omega arith))

  pub walk_stays : (m n k : ℕ) → k < n → n ≤ m → get_or (walk_to wrap raw root ks m) k None ≡ get_or (walk_to wrap raw root ks n) k None
  walk_stays zero n k h l = absurd (omega arith)
  walk_stays (suc m) n k h l = go (ℕ_discrete n (suc m)) (λ g. walk_stays m n k h g)
    where
      go : Dec (n ≡ suc m) → (n ≤ m → get_or (walk_to wrap raw root ks m) k None ≡ get_or (walk_to wrap raw root ks n) k None)
          → get_or (walk_to wrap raw root ks (suc m)) k None ≡ get_or (walk_to wrap raw root ks n) k None
      go (yes e) ih = ap (λ (x : ℕ). get_or (walk_to wrap raw root ks x) k None) (sym e)
      go (no e) ih = walk_at m k (λ q. omega arith) ∙ ih (omega arith)

-- ---- the nearest line of a depth

pub nearest_same : (f g : ℕ → Option ℕ) (ks : List NodeRecord) (d i : ℕ) → ((k : ℕ) → k < i → f k ≡ g k) → from_nearest f ks d i ≡ from_nearest g ks d i
unfolding from_nearest
nearest_same f g ks d zero h = refl
nearest_same f g ks d (suc i) h = (λ j. cond (eqb (get_or ks i no_node).depth d) (h i (omega arith) j) (nearest_same f g ks d i (λ k l. h k (omega arith)) j))

pub nearest_is : (f : ℕ → Option ℕ) (ks : List NodeRecord) (d i t : ℕ) → t < i → (get_or ks t no_node).depth ≡ d → ((k : ℕ) → t < k → k < i → (get_or ks k no_node).depth ≡ d → ⊥)
    → from_nearest f ks d i ≡ f t
unfolding from_nearest
nearest_is f ks d zero t h e n = absurd (not-suc-le-zero h)
nearest_is f ks d (suc i) t h e n = go (ℕ_discrete t i) (λ l. nearest_is f ks d i t l e (λ k a b. n k a (omega arith)))
  where
    go : Dec (t ≡ i) → (t < i → from_nearest f ks d i ≡ f t) → cond (eqb (get_or ks i no_node).depth d) (f i) (from_nearest f ks d i) ≡ f t
    go (yes q) ih = rw (eq-eqb (get_or ks i no_node).depth d (ap (λ (x : ℕ). (get_or ks x no_node).depth) (sym q) ∙ e)) (ap f (sym q))
    go (no q) ih = rw (ne_eqb (get_or ks i no_node).depth d (n i (omega arith) (omega arith))) (ih (omega arith))

-- ---- cells and tables

-- no line is a cell of two tables: the later of the two would end the earlier one
pub one_table : {ks : List NodeRecord} (u t i : ℕ) → CellOf ks u i → CellOf ks t i → u ≡ t
one_table {ks} u t i a b = go (dec_lt u t) (dec_lt t u)
  where
    go : Dec (u < t) → Dec (t < u) → u ≡ t
    go (yes v) w = absurd (omega (arith, a.deeper, b.deeper, a.between t v b.before))
    go (no v) (yes w) = absurd (omega (arith, a.deeper, b.deeper, b.between u w a.before))
    go (no v) (no w) = omega arith

-- what stands in what: bodies in tables, rows in bodies, cells in rows
record Frames (a b : Kind) : Type 0 where
  pub body : kind_number b ≡ body_kind → kind_number a ≡ table_kind
  pub row : kind_number b ≡ row_kind → kind_number a ≡ body_kind
  pub cell : kind_number b ≡ cell_kind → kind_number a ≡ row_kind

frames : (a b : Kind) → Allowed a b → Frames a b
frames a b l = go (ℕ_discrete (kind_number a) table_kind) (ℕ_discrete (kind_number a) body_kind) (ℕ_discrete (kind_number a) row_kind)
  where
    go : Dec (kind_number a ≡ table_kind) → Dec (kind_number a ≡ body_kind) → Dec (kind_number a ≡ row_kind) → Frames a b
    go (yes t) q r = record { body = λ _. t; row = λ e. absurd (omega (arith, l.in_table t)); cell = λ e. absurd (omega (arith, l.in_table t)) }
    go (no t) (yes q) r = record { body = λ e. absurd (omega (arith, l.in_body q)); row = λ _. q; cell = λ e. absurd (omega (arith, l.in_body q)) }
    go (no t) (no q) (yes r) = record { body = λ e. absurd (omega (arith, l.in_row r)); row = λ e. absurd (omega (arith, l.in_row r)); cell = λ _. r }
    go (no t) (no q) (no r) =
        let f = l.elsewhere t q r in
        record { body = λ e. absurd (true≢false (rw e at f)); row = λ e. absurd (true≢false (rw e at f)); cell = λ e. absurd (true≢false (rw e at f)) }

-- the table of a cell
pub record InTable (ks : List NodeRecord) (i : ℕ) : Type 0 where
  pub table : ℕ
  pub cell : CellIn ks table i

module _ {ks : List NodeRecord} (w : Sheet ks) where
  frame_parent : (i : ℕ) → i < length ks → is_frame (line_at ks i).kind ≡ true → (p : ℕ) × Parent ks p i
  frame_parent i h f = parent w i h (go (ℕ_discrete i 0))
    where
      go : Dec (i ≡ 0) → 0 < (line_at ks i).depth
      go (yes e) = absurd (true≢false (sym f ∙ ap (λ (x : ℕ). is_frame (line_at ks x).kind) e ∙ w.root))
      go (no e) = w.under i (omega arith) h

  pub cell_table : (i : ℕ) → i < length ks → kind_number (line_at ks i).kind ≡ cell_kind → InTable ks i
  cell_table i h e =
      let x = frame_parent i h (rw e refl) in
      let xk = (frames (line_at ks x.0).kind (line_at ks i).kind (may w x.0 i x.1)).cell e in
      let y = frame_parent x.0 (omega (arith, x.1.before)) (rw xk refl) in
      let yk = (frames (line_at ks y.0).kind (line_at ks x.0).kind (may w y.0 x.0 y.1)).row xk in
      let z = frame_parent y.0 (omega (arith, x.1.before, y.1.before)) (rw yk refl) in
      let zk = (frames (line_at ks z.0).kind (line_at ks y.0).kind (may w z.0 y.0 z.1)).body yk in
      record {
        table = z.0;
        cell = (
          zk,
          record {
            before = omega (arith, x.1.before, y.1.before, z.1.before);
            within = h;
            deeper = omega (arith, x.1.deeper, y.1.deeper, z.1.deeper);
            between = λ k a b. go x y z k a b (dec_lt k y.0) (ℕ_discrete k y.0) (dec_lt k x.0) (ℕ_discrete k x.0);
          },
        );
      }
    where
      go : (x : (p : ℕ) × Parent ks p i) (y : (p : ℕ) × Parent ks p x.0) (z : (p : ℕ) × Parent ks p y.0) (k : ℕ) → z.0 < k → k < i
          → Dec (k < y.0) → Dec (k ≡ y.0) → Dec (k < x.0) → Dec (k ≡ x.0) → (line_at ks z.0).depth < (line_at ks k).depth
      go x y z k a b (yes p) q r s = z.1.between k a p
      go x y z k a b (no p) (yes q) r s = omega (arith, z.1.deeper, ap (λ (n : ℕ). (line_at ks n).depth) q)
      go x y z k a b (no p) (no q) (yes r) s = omega (arith, z.1.deeper, y.1.between k (omega arith) r)
      go x y z k a b (no p) (no q) (no r) (yes s) = omega (arith, z.1.deeper, y.1.deeper, ap (λ (n : ℕ). (line_at ks n).depth) s)
      go x y z k a b (no p) (no q) (no r) (no s) = omega (arith, z.1.deeper, y.1.deeper, x.1.between k (omega arith) b)

  -- what a cell's table gives it is what the nearest line three less deep gives
  pub cell_nearest : (f : ℕ → Option ℕ) (i : ℕ) (c : InTable ks i) → from_nearest f ks ((get_or ks i no_node).depth - 3) i ≡ f c.table
  cell_nearest f i c =
      nearest_is f ks ((get_or ks i no_node).depth - 3) i c.table c.cell.1.before (omega (arith, c.cell.1.deeper))
      (λ k a b e. omega (arith, c.cell.1.deeper, c.cell.1.between k a b))
