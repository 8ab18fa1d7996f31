-- A cell of a table is of the kind cell: by its parent, its parent's parent, and the table. A line that is deeper than an earlier one has its
-- parent from there on, the nearest line that is less deep, since a line is at most one deeper than the line before it.
use mathlib.Core.Path.{◌≡◌, sym, ap, ◌∙◌}
use mathlib.Core.Bool.{true}
use mathlib.Core.List.{List}
use Prim.Native.Nat.{ℕ, zero, suc, ◌+◌, ◌-◌, ◌≤◌, ◌<◌}
use native.Mathlib.Decide.{dec_lt, ℕ_discrete}
use native.Mathlib.Omega.{arith}
use lib.ListN.{length, get_or}
use borrow.Author.Tests.{eqb-true}
use Rattle.kinds.specs.Kinds.{kind_number, table_kind, body_kind, row_kind, cell_kind, may_hold}
use Rattle.records.specs.Parents.{Parent}
use Rattle.records.specs.NodeRecord.{no_node}
use Rattle.records.specs.declared.NodeRecord.{NodeRecord}
use Rattle.grid.specs.Facts.{CellOf}
use Rattle.grid_bounds.specs.inner.Sheets.{Nests}
use Rattle.kinds.specs.declared.Kind.{Kind}
use Rattle.kinds.proofs.Places.{same_number}
use Rattle.kinds.specs.declared.Kind.TheVariants.{Table, Body, Row}

-- the parent of the line at i, from place u on
record Above (ks : List NodeRecord) (u i : ℕ) : Type 0 where
  pub p : ℕ
  pub from : u ≤ p
  pub parent : Parent ks p i

module _ (ks : List NodeRecord) (step : (k : ℕ) → k + 1 < length ks → (get_or ks (k + 1) no_node).depth ≤ (get_or ks k no_node).depth + 1) where
  -- no line after place q and before place i is less deep than that at i, and the line at q is
  above_here : (u i q : ℕ) → i < length ks → u ≤ q → q < i → (get_or ks q no_node).depth < (get_or ks i no_node).depth
      → ((k : ℕ) → q < k → k < i → (get_or ks i no_node).depth ≤ (get_or ks k no_node).depth) → Above ks u i
  above_here u i q w h l d none = record { p = q; from = h; parent = record { before = l; within = w; deeper = one (ℕ_discrete (q + 1) i); between = λ k a b. omega (arith, none k a b) } }
    where
      one : Dec (q + 1 ≡ i) → (get_or ks i no_node).depth ≡ (get_or ks q no_node).depth + 1
      one (yes e) = omega (arith, step q (omega arith), ap (λ (x : ℕ). (get_or ks x no_node).depth) e)
      one (no e) = omega (arith, step q (omega arith), none (q + 1) (omega arith) (omega arith))

  -- n places after u
  above_from : (u i n : ℕ) → i < length ks → (get_or ks u no_node).depth < (get_or ks i no_node).depth → n + u < i
      → ((k : ℕ) → n + u < k → k < i → (get_or ks i no_node).depth ≤ (get_or ks k no_node).depth) → Above ks u i
  above_from u i zero w h l none = above_here u i (zero + u) w (omega arith) l (let e : zero + u ≡ u = omega arith in rw e h) none
  above_from u i (suc n) w h l none = go (above_from u i n w h (omega arith)) (dec_lt (get_or ks (suc n + u) no_node).depth (get_or ks i no_node).depth)
    where
      go : (((k : ℕ) → n + u < k → k < i → (get_or ks i no_node).depth ≤ (get_or ks k no_node).depth) → Above ks u i) → Dec ((get_or ks (suc n + u) no_node).depth < (get_or ks i no_node).depth) → Above ks u i
      go ih (yes d) = above_here u i (suc n + u) w (omega arith) l d none
      go ih (no d) = ih (λ k a b. more k a b (ℕ_discrete k (suc n + u)))
        where
          more : (k : ℕ) → n + u < k → k < i → Dec (k ≡ suc n + u) → (get_or ks i no_node).depth ≤ (get_or ks k no_node).depth
          more k a b (yes e) = omega (arith, ap (λ (x : ℕ). (get_or ks x no_node).depth) e)
          more k a b (no e) = none k (omega arith) b

  above : (u i : ℕ) → u < i → i < length ks → (get_or ks u no_node).depth < (get_or ks i no_node).depth → Above ks u i
  above u i l w h = above_from u i (i - 1 - u) w h (omega arith) (λ k a b. absurd (omega arith))

  -- the kinds on the way from a table down to its cell
  module _ (z : Nests ks) (t i : ℕ) (c : CellOf ks t i) (e : kind_number (get_or ks t no_node).kind ≡ table_kind) where
    holds_body : (k : Kind) → may_hold Table k ≡ true → kind_number k ≡ body_kind
    unfolding may_hold
    holds_body k h = eqb-true (kind_number k) body_kind h

    holds_row : (k : Kind) → may_hold Body k ≡ true → kind_number k ≡ row_kind
    unfolding may_hold
    holds_row k h = eqb-true (kind_number k) row_kind h

    holds_cell : (k : Kind) → may_hold Row k ≡ true → kind_number k ≡ cell_kind
    unfolding may_hold
    holds_cell k h = eqb-true (kind_number k) cell_kind h

    -- what a parent of the kind a holds
    child : (a : Kind) (b : ℕ) → ((k : Kind) → may_hold a k ≡ true → kind_number k ≡ b) → (p q : ℕ) → Parent ks p q → kind_number (get_or ks p no_node).kind ≡ kind_number a
        → kind_number (get_or ks q no_node).kind ≡ b
    child a b h p q r f =
        h (get_or ks q no_node).kind (sym (ap (λ (x : Kind). may_hold x (get_or ks q no_node).kind) (same_number (get_or ks p no_node).kind a f)) ∙ z.holds p q r)

    pub cell_kind_lem : kind_number (get_or ks i no_node).kind ≡ cell_kind
    cell_kind_lem =
        let d = c.deeper in
        let x = above t i c.before c.within (omega arith) in
        let xp = x.parent in
        let x' : t < x.p = later x.p x.from (omega (arith, xp.deeper)) in
        let y = above t x.p x' (omega (arith, xp.before, c.within)) (omega (arith, xp.deeper)) in
        let yp = y.parent in
        let y' : t < y.p = later y.p y.from (omega (arith, xp.deeper, yp.deeper)) in
        let w = above t y.p y' (omega (arith, xp.before, yp.before, c.within)) (omega (arith, xp.deeper, yp.deeper)) in
        let wp = w.parent in
        let w' : w.p ≡ t = first w.p w.from (omega (arith, xp.before, yp.before, wp.before)) (omega (arith, xp.deeper, yp.deeper, wp.deeper)) in
        child Row cell_kind holds_cell x.p i xp
        (child Body row_kind holds_row y.p x.p yp (child Table body_kind holds_body w.p y.p wp (ap (λ (k : ℕ). kind_number (get_or ks k no_node).kind) w' ∙ e)))
      where
        -- another depth, so another line
        later : (q : ℕ) → t ≤ q → ((get_or ks q no_node).depth ≡ (get_or ks t no_node).depth → ⊥) → t < q
        later q h n = go (ℕ_discrete q t)
          where
            go : Dec (q ≡ t) → t < q
            go (yes f) = absurd (n (ap (λ (k : ℕ). (get_or ks k no_node).depth) f))
            go (no f) = omega arith

        -- the same depth, so no line between
        first : (q : ℕ) → t ≤ q → q < i → (get_or ks q no_node).depth ≡ (get_or ks t no_node).depth → q ≡ t
        first q h l n = go (ℕ_discrete q t)
          where
            go : Dec (q ≡ t) → q ≡ t
            go (yes f) = f
            go (no f) = absurd (omega (arith, c.between q (omega arith) l))
