-- The list of a stretch has exactly the printed entries in it, each once and in order. By induction on the row.
use mathlib.Core.Bool.{Bool, true, false, cond, ◌&&◌, ◌||◌}
use mathlib.Core.Path.{◌≡◌, refl}
use mathlib.Core.List.{List, [], ◌∷◌}
use Prim.Native.Nat.{ℕ, zero, suc, ◌+◌, ◌-◌, ◌≤◌, ◌<◌}
use native.Mathlib.Nat.{not-suc-le-zero}
use native.Mathlib.Numerals.{add-one}
use native.Mathlib.Omega.{arith}
use lib.Dec.{eqb, leb, ltb}
use lib.ListN.{length, get_or}
use borrow.Author.Tests.{ltb-true, leb-true, eqb-true, lt-ltb, le-leb, eq-eqb}
use Rattle.common.proofs.Tests.{both, or_right}
use Rattle.common.specs.Lists.{mem}
use Rattle.placement.specs.Place.{Placed}
use Rattle.hit_test.specs.Point.{past, inside, listed}
use Rattle.hit_test.specs.Exact.{Inside, ListsExactly}
use Rattle.hit_test.proofs.Answer.{printed_later, printed_tail, none_printed, clash}

pub inside_true : (p : Placed) (a b : ℕ) → inside p a b ≡ true → (0 < p.width) × (a ≤ p.x) × (past p ≤ b)
inside_true p a b e =
    let t = both (ltb 0 p.width) (leb a p.x && leb (past p) b) e in
    let s = both (leb a p.x) (leb (past p) b) t.1 in
    (ltb-true _ _ t.0, leb-true _ _ s.0, leb-true _ _ s.1)

pub true_inside : (p : Placed) (a b : ℕ) → 0 < p.width → a ≤ p.x → past p ≤ b → inside p a b ≡ true
true_inside p a b w f u = rw (lt-ltb 0 p.width w, le-leb a p.x f, le-leb (past p) b u)

inside_later : (p : Placed) (ps : List Placed) (a b j : ℕ) → Inside ps a b j → Inside (p ∷ ps) a b (suc j)
inside_later p ps a b j h = record { printed = printed_later p ps j h.printed; from = h.from; upto = h.upto }

inside_tail : (p : Placed) (ps : List Placed) (a b j : ℕ) → Inside (p ∷ ps) a b (suc j) → Inside ps a b j
inside_tail p ps a b j h = record { printed = printed_tail p ps j h.printed; from = h.from; upto = h.upto }

-- the entry with the number n
record Numbered (k a b : ℕ) (ps : List Placed) (n : ℕ) : Type 0 where
  j : ℕ
  is : n ≡ k + j
  holds : Inside ps a b j

listed_only : (k a b : ℕ) (ps : List Placed) (n : ℕ) → mem n (listed k a b ps) ≡ true → Numbered k a b ps n
unfolding mem listed
listed_only k a b [] n e = clash false e refl
listed_only k a b (p ∷ ps) n e = go (λ t. later (listed_only (k + 1) a b ps n t)) (inside p a b) refl e
  where
    later : Numbered (k + 1) a b ps n → Numbered k a b (p ∷ ps) n
    later s = record { j = suc s.j; is = omega (arith, s.is); holds = inside_later p ps a b s.j s.holds }

    here : inside p a b ≡ true → n ≡ k → Numbered k a b (p ∷ ps) n
    here d y =
        let t = inside_true p a b d in
        record {
          j = 0;
          is = omega arith;
          holds = record { printed = record { there = omega arith; wide = t.0 }; from = t.1; upto = t.2 };
        }

    go : (mem n (listed (k + 1) a b ps) ≡ true → Numbered k a b (p ∷ ps) n) → (z : Bool) → inside p a b ≡ z →
        mem n (cond z (k ∷ listed (k + 1) a b ps) (listed (k + 1) a b ps)) ≡ true → Numbered k a b (p ∷ ps) n
    go rest false d t = rest t
    go rest true d t = or (eqb n k) refl t
      where
        or : (y : Bool) → eqb n k ≡ y → (y || mem n (listed (k + 1) a b ps)) ≡ true → Numbered k a b (p ∷ ps) n
        or true q s = here d (eqb-true _ _ q)
        or false q s = rest s

listed_then : (k a b : ℕ) (ps : List Placed) (j : ℕ) → Inside ps a b j → mem (k + j) (listed k a b ps) ≡ true
unfolding mem listed
listed_then k a b [] j h = absurd (none_printed j h.printed)
listed_then k a b (p ∷ ps) zero h = rw (true_inside p a b h.printed.wide h.from h.upto, eq-eqb (k + 0) k (omega arith))
listed_then k a b (p ∷ ps) (suc j) h = go (rw e at (listed_then (k + 1) a b ps j (inside_tail p ps a b j h))) (inside p a b)
  where
    e : k + 1 + j ≡ k + suc j
    e = omega arith

    go : mem (k + suc j) (listed (k + 1) a b ps) ≡ true → (z : Bool) →
        mem (k + suc j) (cond z (k ∷ listed (k + 1) a b ps) (listed (k + 1) a b ps)) ≡ true
    go rest true = or_right (eqb (k + suc j) k) (mem (k + suc j) (listed (k + 1) a b ps)) rest
    go rest false = rest

-- ---- the order

-- each figure is above the one before it, and the first at least c
unfoldable Above : ℕ → List ℕ → Type 0
Above c [] = Unit {0}
Above c (y ∷ ys) = (c ≤ y) × Above (y + 1) ys

above_less : (c d : ℕ) (ys : List ℕ) → d ≤ c → Above c ys → Above d ys
unfolding Above
above_less c d [] h a = tt
above_less c d (y ∷ ys) h a = (omega (arith, a.0), a.1)

above_at : (c : ℕ) (ys : List ℕ) (i : ℕ) → Above c ys → suc i < length ys → get_or ys i 0 < get_or ys (suc i) 0
unfolding Above
above_at c [] i a h = absurd (not-suc-le-zero h)
above_at c (y ∷ []) i a h = absurd (omega arith)
above_at c (y ∷ z ∷ ys) zero a h = omega (arith, a.1.0)
above_at c (y ∷ z ∷ ys) (suc i) a h = above_at (y + 1) (z ∷ ys) i a.1 (omega arith)

listed_above : (k a b : ℕ) (ps : List Placed) → Above k (listed k a b ps)
unfolding Above listed
listed_above k a b [] = tt
listed_above k a b (p ∷ ps) = go (listed_above (k + 1) a b ps) (inside p a b)
  where
    go : Above (k + 1) (listed (k + 1) a b ps) → (z : Bool) → Above k (cond z (k ∷ listed (k + 1) a b ps) (listed (k + 1) a b ps))
    go rest true = (omega arith, rest)
    go rest false = above_less (k + 1) k (listed (k + 1) a b ps) (omega arith) rest

pub listed_exact : (k a b : ℕ) (ps : List Placed) → ListsExactly k a b ps (listed k a b ps)
listed_exact k a b ps =
    record {
      only = λ n e.
          let s = listed_only k a b ps n e in
          let z : n - k ≡ s.j = omega (arith, s.is) in
          (omega (arith, s.is), rw z s.holds);
      then = listed_then k a b ps;
      ascends = λ i h. rw (add-one i) (above_at k (listed k a b ps) i (listed_above k a b ps) (omega arith));
    }

-- no more are listed than there are
pub listed_length : (k a b : ℕ) (ps : List Placed) → length (listed k a b ps) ≤ length ps
unfolding listed
listed_length k a b [] = omega arith
listed_length k a b (p ∷ ps) = go (listed_length (k + 1) a b ps) (inside p a b)
  where
    go : length (listed (k + 1) a b ps) ≤ length ps → (z : Bool) →
        length (cond z (k ∷ listed (k + 1) a b ps) (listed (k + 1) a b ps)) ≤ suc (length ps)
    go rest true = omega arith
    go rest false = omega arith
