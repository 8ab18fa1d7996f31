-- Of any row, the answer is right: a cell covers the column, a gap lies between two printed cells, and nothing means that neither is there. By
-- induction on the row: what holds of the entries after the first holds of all, if the first neither covers the column nor ends there.
use mathlib.Core.Bool.{Bool, true, false, cond}
use mathlib.Core.Path.{◌≡◌, refl, sym, ◌∙◌}
use mathlib.Core.List.{List, [], ◌∷◌}
use Prim.Native.Nat.{ℕ, zero, suc, ◌+◌, ◌≤◌, ◌<◌}
use native.Mathlib.Nat.{not-suc-le-zero}
use native.Mathlib.Omega.{arith}
use lib.Dec.{eqb, leb, ltb}
use lib.ListN.{length}
use borrow.Author.Tests.{ltb-true, ltb-false, leb-true, eqb-true, lt-ltb, le-leb, eq-eqb}
use Rattle.common.proofs.Tests.{both}
use Rattle.placement.specs.Place.{Placed}
use Rattle.hit_test.specs.Point.{past, covers, closes, some_printed, gap_before, pointed}
use Rattle.hit_test.specs.Exact.{entry, IsPrinted, Covers, Between}
use Rattle.answers.specs.declared.Under.{Under}
use Rattle.answers.specs.declared.Under.TheVariants.{Cell, Gap, Nothing}

pub covers_true : (p : Placed) (x : ℕ) → covers p x ≡ true → (p.x ≤ x) × (x < past p)
covers_true p x e =
    let t = both (leb p.x x) (ltb x (past p)) e in
    (leb-true _ _ t.0, ltb-true _ _ t.1)

pub true_covers : (p : Placed) (x : ℕ) → p.x ≤ x → x < past p → covers p x ≡ true
true_covers p x l h = rw (le-leb _ _ l, lt-ltb _ _ h)

pub closes_true : (p : Placed) (x : ℕ) → closes p x ≡ true → (0 < p.width) × (past p ≡ x)
closes_true p x e =
    let t = both (ltb 0 p.width) (eqb (past p) x) e in
    (ltb-true _ _ t.0, eqb-true _ _ t.1)

pub true_closes : (p : Placed) (x : ℕ) → 0 < p.width → past p ≡ x → closes p x ≡ true
true_closes p x w e = rw (lt-ltb 0 p.width w, eq-eqb (past p) x e)

pub clash : {A : Type 0} (b : Bool) → b ≡ true → b ≡ false → A
clash b t f = absurd (let z : true ≡ false = sym t ∙ f in let y : ◌≡◌ {A = ℕ} 0 1 = cc in omega arith)

-- ---- entries after the first

pub printed_later : (p : Placed) (ps : List Placed) (j : ℕ) → IsPrinted ps j → IsPrinted (p ∷ ps) (suc j)
printed_later p ps j h = record { there = omega (arith, h.there); wide = h.wide }

pub printed_tail : (p : Placed) (ps : List Placed) (j : ℕ) → IsPrinted (p ∷ ps) (suc j) → IsPrinted ps j
printed_tail p ps j h = record { there = omega (arith, h.there); wide = h.wide }

pub none_printed : (j : ℕ) → IsPrinted [] j → ⊥
none_printed j h = not-suc-le-zero h.there

covers_later : (p : Placed) (ps : List Placed) (x j : ℕ) → Covers ps x j → Covers (p ∷ ps) x (suc j)
covers_later p ps x j h = record { printed = printed_later p ps j h.printed; from = h.from; upto = h.upto }

covers_tail : (p : Placed) (ps : List Placed) (x j : ℕ) → Covers (p ∷ ps) x (suc j) → Covers ps x j
covers_tail p ps x j h = record { printed = printed_tail p ps j h.printed; from = h.from; upto = h.upto }

between_later : (p : Placed) (ps : List Placed) (x : ℕ) → Between ps x → Between (p ∷ ps) x
between_later p ps x h =
    record {
      left = suc h.left;
      right = suc h.right;
      order = omega (arith, h.order);
      left_printed = printed_later p ps h.left h.left_printed;
      right_printed = printed_later p ps h.right h.right_printed;
      closed = h.closed;
    }

-- a pair of entries whose first is the row's first, or a pair of the entries after it
between_tail : (p : Placed) (ps : List Placed) (x : ℕ) → closes p x ≡ false → Between (p ∷ ps) x → Between ps x
between_tail p ps x f h = go h.left h.right h.order h.left_printed h.right_printed h.closed
  where
    go : (l r : ℕ) → l < r → IsPrinted (p ∷ ps) l → IsPrinted (p ∷ ps) r → past (entry (p ∷ ps) l) ≡ x → Between ps x
    go zero r o a b e = clash (closes p x) (true_closes p x a.wide e) f
    go (suc l) zero o a b e = absurd (not-suc-le-zero o)
    go (suc l) (suc r) o a b e =
        record {
          left = l;
          right = r;
          order = omega (arith, o);
          left_printed = printed_tail p ps l a;
          right_printed = printed_tail p ps r b;
          closed = e;
        }

-- ---- whether one is printed

pub record Some (ps : List Placed) : Type 0 where
  pub number : ℕ
  pub printed : IsPrinted ps number

some_true : (ps : List Placed) → some_printed ps ≡ true → Some ps
unfolding some_printed
some_true [] e = clash false e refl
some_true (p ∷ ps) e = go (λ t. some_true ps t) (ltb 0 p.width) refl e
  where
    go : (some_printed ps ≡ true → Some ps) → (b : Bool) → ltb 0 p.width ≡ b → cond b true (some_printed ps) ≡ true → Some (p ∷ ps)
    go rest true d t = record { number = 0; printed = record { there = omega arith; wide = ltb-true _ _ d } }
    go rest false d t =
        let s = rest t in
        record { number = suc s.number; printed = printed_later p ps s.number s.printed }

some_false : (ps : List Placed) → some_printed ps ≡ false → (j : ℕ) → IsPrinted ps j → ⊥
unfolding some_printed
some_false [] e j h = none_printed j h
some_false (p ∷ ps) e j h = go (λ t. some_false ps t) (ltb 0 p.width) refl e j h
  where
    go : (some_printed ps ≡ false → (j : ℕ) → IsPrinted ps j → ⊥) → (b : Bool) → ltb 0 p.width ≡ b → cond b true (some_printed ps) ≡ false →
        (j : ℕ) → IsPrinted (p ∷ ps) j → ⊥
    go rest true d t j h = clash true refl t
    go rest false d t zero h = omega (arith, ltb-false 0 p.width d, h.wide)
    go rest false d t (suc j) h = rest t j (printed_tail p ps j h)

-- ---- the answer

pub data Answer (k : ℕ) (ps : List Placed) (x : ℕ) : Under ℕ → Type 0 where
  cell : (j n : ℕ) → n ≡ k + j → Covers ps x j → Answer k ps x (Cell n)
  gap : Between ps x → Answer k ps x Gap
  nothing : ((j : ℕ) → Covers ps x j → ⊥) → (Between ps x → ⊥) → Answer k ps x Nothing

module _ (k x : ℕ) (p : Placed) (ps : List Placed) where
  -- no entry covers the column, if the first does not and none after it does
  no_cover : covers p x ≡ false → ((j : ℕ) → Covers ps x j → ⊥) → (j : ℕ) → Covers (p ∷ ps) x j → ⊥
  no_cover f rest zero h = clash (covers p x) (true_covers p x h.from h.upto) f
  no_cover f rest (suc j) h = rest j (covers_tail p ps x j h)

  later : (u : Under ℕ) → covers p x ≡ false → closes p x ≡ false → Answer (k + 1) ps x u → Answer k (p ∷ ps) x u
  later u f g (cell j n e h) = cell (suc j) n (omega arith) (covers_later p ps x j h)
  later u f g (gap h) = gap (between_later p ps x h)
  later u f g (nothing a b) = nothing (no_cover f a) (λ h. b (between_tail p ps x g h))

  -- at the end of the first
  ended : covers p x ≡ false → closes p x ≡ true → (b : Bool) → some_printed ps ≡ b → Answer k (p ∷ ps) x (cond b Gap Nothing)
  ended f g true e =
      let s = some_true ps e in
      let c = closes_true p x g in
      gap
      (record {
        left = 0;
        right = suc s.number;
        order = omega arith;
        left_printed = record { there = omega arith; wide = c.0 };
        right_printed = printed_later p ps s.number s.printed;
        closed = c.1;
      })
  ended f g false e =
      nothing (no_cover f (λ j h. some_false ps e j h.printed))
      (λ h. go h.left h.right h.order h.right_printed)
    where
      go : (l r : ℕ) → l < r → IsPrinted (p ∷ ps) r → ⊥
      go l zero o h = not-suc-le-zero o
      go l (suc r) o h = some_false ps e r (printed_tail p ps r h)

pub answer : (k x : ℕ) (ps : List Placed) → Answer k ps x (pointed k x ps)
unfolding pointed gap_before
answer k x [] = nothing (λ j h. none_printed j h.printed) (λ h. none_printed h.left h.left_printed)
answer k x (p ∷ ps) = go (answer (k + 1) x ps) (covers p x) (closes p x) refl refl
  where
    go : Answer (k + 1) ps x (pointed (k + 1) x ps) → (a b : Bool) → covers p x ≡ a → closes p x ≡ b →
        Answer k (p ∷ ps) x (cond a (Cell k) (cond b (gap_before ps) (pointed (k + 1) x ps)))
    go rest true b d e =
        let c = covers_true p x d in
        cell 0 k (omega arith)
        (record { printed = record { there = omega arith; wide = omega (arith, c.0, c.1) }; from = c.0; upto = c.1 })
    go rest false true d e = ended k x p ps d e (some_printed ps) refl
    go rest false false d e = later k x p ps (pointed (k + 1) x ps) d e rest

-- a cell's number is that of one of the row's entries
pub cell_below : (k x : ℕ) (ps : List Placed) (n : ℕ) → pointed k x ps ≡ Cell n → n < k + length ps
cell_below k x ps n = go (pointed k x ps) (answer k x ps)
  where
    go : (u : Under ℕ) → Answer k ps x u → u ≡ Cell n → n < k + length ps
    go u (cell j m e h) d = let z : m ≡ n = cc in omega (arith, h.printed.there)
    go u (gap b) d = absurd (let z : ◌≡◌ {A = ℕ} 0 1 = cc in omega arith)
    go u (nothing f g) d = absurd (let z : ◌≡◌ {A = ℕ} 0 1 = cc in omega arith)
