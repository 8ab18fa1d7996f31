-- Whether bytes begin with a word: as the comparison by pairs says it, and as the definition does.
use mathlib.Core.Path.{◌≡◌, refl, sym, ◌∙◌}
use mathlib.Core.Bool.{Bool, true, false}
use mathlib.Core.List.{List, [], ◌∷◌}
use Prim.Native.Nat.{ℕ}
use lib.Dec.{eqb}
use lib.Pointwise.{pointwise}
use borrow.Author.Tests.{eqb-true, eqb-false, eq-eqb, ne_eqb}
use Rattle.kinds.specs.Kinds.{same}

other_way : (x b : ℕ) → eqb x b ≡ eqb b x
other_way x b = go (eqb x b) refl
  where
    go : (t : Bool) → eqb x b ≡ t → eqb x b ≡ eqb b x
    go true e = e ∙ sym (eq-eqb b x (sym (eqb-true x b e)))
    go false e = e ∙ sym (ne_eqb b x (λ q. eqb-false x b e (sym q)))

pairs_same : (w s : List ℕ) → pointwise eqb w s ≡ same s w
unfolding same
pairs_same [] [] = refl
pairs_same [] (b ∷ s) = refl
pairs_same (x ∷ w) [] = refl
pairs_same (x ∷ w) (b ∷ s) = rw (pairs_same w s, other_way x b)

-- what the comparison with a word tells
pub word_told : (w s : List ℕ) {r t : Bool} → r ≡ pointwise eqb w s → r ≡ t → same s w ≡ t
word_told w s e q = sym (pairs_same w s) ∙ sym e ∙ q
