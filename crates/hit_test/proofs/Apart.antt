-- In a row as the third demand has it, each printed cell ends before the next one starts, so that no column lies in two cells, nor in a cell
-- and a gap.
use mathlib.Core.Bool.{Bool, true, false, cond}
use mathlib.Core.Path.{◌≡◌, refl}
use mathlib.Core.List.{List, [], ◌∷◌}
use Prim.Native.Nat.{ℕ, zero, suc, ◌+◌, ◌≤◌, ◌<◌}
use native.Mathlib.Nat.{not-suc-le-zero}
use native.Mathlib.Numerals.{add-one}
use native.Mathlib.Omega.{arith}
use lib.Dec.{eqb}
use lib.ListN.{length, get_or}
use borrow.Author.Tests.{eqb-true}
use Rattle.columns.specs.Boxes.{Box}
use Rattle.placement.specs.Place.{Placed}
use Rattle.placement.specs.Promise.{nowhere, printed, InRow}
use Rattle.hit_test.specs.Point.{past}
use Rattle.hit_test.specs.Exact.{entry, IsPrinted}
use Rattle.hit_test.proofs.Answer.{printed_tail, none_printed}

-- printed cells from the column c on, one column apart
pub data Apart : ℕ → List Placed → Type 0 where
  none : {c : ℕ} → Apart c []
  missing : {c : ℕ} {p : Placed} {ps : List Placed} → p.width ≡ 0 → Apart c ps → Apart c (p ∷ ps)
  shown : {c : ℕ} {p : Placed} {ps : List Placed} → p.x ≡ c → Apart (past p + 1) ps → Apart c (p ∷ ps)

pub apart_from : (c : ℕ) (ps : List Placed) (j : ℕ) → Apart c ps → IsPrinted ps j → c ≤ (entry ps j).x
apart_from c [] j a h = absurd (none_printed j h)
apart_from c (p ∷ ps) zero (missing e a) h = omega (arith, h.wide)
apart_from c (p ∷ ps) zero (shown e a) h = omega arith
apart_from c (p ∷ ps) (suc j) (missing e a) h = apart_from c ps j a (printed_tail p ps j h)
apart_from c (p ∷ ps) (suc j) (shown e a) h = omega (arith, apart_from (past p + 1) ps j a (printed_tail p ps j h))

pub apart_order : (c : ℕ) (ps : List Placed) (i j : ℕ) → Apart c ps → IsPrinted ps i → IsPrinted ps j → i < j → past (entry ps i) < (entry ps j).x
apart_order c [] i j a g h l = absurd (none_printed i g)
apart_order c (p ∷ ps) i zero a g h l = absurd (not-suc-le-zero l)
apart_order c (p ∷ ps) zero (suc j) (missing e a) g h l = absurd (omega (arith, g.wide))
apart_order c (p ∷ ps) zero (suc j) (shown e a) g h l = omega (arith, apart_from (past p + 1) ps j a (printed_tail p ps j h))
apart_order c (p ∷ ps) (suc i) (suc j) (missing e a) g h l =
    apart_order c ps i j a (printed_tail p ps i g) (printed_tail p ps j h) (omega arith)
apart_order c (p ∷ ps) (suc i) (suc j) (shown e a) g h l =
    apart_order (past p + 1) ps i j a (printed_tail p ps i g) (printed_tail p ps j h) (omega arith)

-- a row in which the first printed cell starts at c and the others one column past their neighbours
apart_row : (c : ℕ) (bs : List Box) (ps : List Placed) → length bs ≡ length ps →
    (0 < length (printed bs ps) → (get_or (printed bs ps) 0 nowhere).x ≡ c) →
    ((k : ℕ) → suc k < length (printed bs ps) →
    (get_or (printed bs ps) (suc k) nowhere).x ≡ (get_or (printed bs ps) k nowhere).x + (get_or (printed bs ps) k nowhere).width + 1) →
    Apart c ps
unfolding printed
apart_row c [] [] e s a = none
apart_row c [] (p ∷ ps) e s a = absurd (omega arith)
apart_row c (b ∷ bs) [] e s a = absurd (omega arith)
apart_row c (b ∷ bs) (p ∷ ps) e s a = go (λ d. apart_row d bs ps (omega arith)) (eqb p.width 0) refl s a
  where
    go : ((d : ℕ) → (0 < length (printed bs ps) → (get_or (printed bs ps) 0 nowhere).x ≡ d) →
        ((k : ℕ) → suc k < length (printed bs ps) →
        (get_or (printed bs ps) (suc k) nowhere).x ≡ (get_or (printed bs ps) k nowhere).x + (get_or (printed bs ps) k nowhere).width + 1) → Apart d ps) →
        (z : Bool) → eqb p.width 0 ≡ z →
        (0 < length (cond z (printed bs ps) (record { x = p.x; width = p.width; least = b.least } ∷ printed bs ps)) →
        (get_or (cond z (printed bs ps) (record { x = p.x; width = p.width; least = b.least } ∷ printed bs ps)) 0 nowhere).x ≡ c) →
        ((k : ℕ) → suc k < length (cond z (printed bs ps) (record { x = p.x; width = p.width; least = b.least } ∷ printed bs ps)) →
        (get_or (cond z (printed bs ps) (record { x = p.x; width = p.width; least = b.least } ∷ printed bs ps)) (suc k) nowhere).x
        ≡ (get_or (cond z (printed bs ps) (record { x = p.x; width = p.width; least = b.least } ∷ printed bs ps)) k nowhere).x
        + (get_or (cond z (printed bs ps) (record { x = p.x; width = p.width; least = b.least } ∷ printed bs ps)) k nowhere).width
        + 1) → Apart c (p ∷ ps)
    go rest true d s a = missing (eqb-true _ _ d) (rest c s a)
    go rest false d s a =
        shown (s (omega arith)) (rest (past p + 1) (λ h. a 0 (omega arith)) (λ k h. a (suc k) (omega arith)))

pub in_row_apart : (width : ℕ) (bs : List Box) (ps : List Placed) → length bs ≡ length ps → InRow width (printed bs ps) → Apart 0 ps
in_row_apart width bs ps e r =
    apart_row 0 bs ps e r.starts
    (λ k h. rw (add-one k) at (r.apart k (omega arith)))
