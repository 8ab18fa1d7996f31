-- Two lists of one length read together from the front: what is left of each, and the figure that a turn reads.
use mathlib.Core.Path.{◌≡◌, sym, ap, ◌∙◌}
use mathlib.Core.List.{List, [], ◌∷◌}
use Prim.Native.Nat.{ℕ, suc, ◌+◌, ◌≤◌, ◌<◌}
use native.Mathlib.Decide.{dec_lt}
use native.Mathlib.Omega.{arith}
use native.Mathlib.Numerals.{add-one}
use lib.ListN.{length, drop, get_or, drop_of_length-le}
use lib.Seq.{drop-cons}
use Rattle.cutting.specs.Cut.{at}

-- what is left from place i on is not empty: then it begins with the figure at i
pub read_next : (xs : List ℕ) (i : ℕ) {r s : List ℕ} {x : ℕ} → r ≡ drop i xs → r ≡ x ∷ s → (i < length xs) × (x ≡ at xs i) × (s ≡ drop (i + 1) xs)
read_next xs i {r} {s} {x} p q = go (dec_lt i (length xs))
  where
    go : Dec (i < length xs) → (i < length xs) × (x ≡ at xs i) × (s ≡ drop (i + 1) xs)
    go (yes h) =
        let e : (x ∷ s) ≡ (at xs i ∷ drop (suc i) xs) = sym q ∙ p ∙ drop-cons xs i 0 h in
        (h, ap (λ (l : List ℕ). get_or l 0 0) e, rw add-one (ap (drop 1) e))
    go (no h) =
        let e : (x ∷ s) ≡ [] = sym q ∙ p ∙ drop_of_length-le xs {i = i} (omega arith) in
        absurd (omega (arith, ap length e))

-- nothing is left: then all places are passed
pub read_all : (xs : List ℕ) (i : ℕ) {r : List ℕ} → r ≡ drop i xs → length r ≡ 0 → length xs ≤ i
read_all xs i {r} p q = go (dec_lt i (length xs))
  where
    go : Dec (i < length xs) → length xs ≤ i
    go (yes h) = absurd (omega (arith, ap length (p ∙ drop-cons xs i 0 h), q))
    go (no h) = omega arith
