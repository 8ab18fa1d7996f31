-- Whether a row has a gap, by what the code was told.
use mathlib.Core.Bool.{Bool, true, false, cond}
use mathlib.Core.Path.{◌≡◌, refl, sym, ap, ◌∙◌}
use mathlib.Core.List.{List, [], ◌∷◌}
use Prim.Native.Nat.{ℕ, ◌+◌}
use Rattle.placement.specs.Place.{Placed}
use Rattle.hit_test.specs.Point.{covers, closes, gap_before, pointed, is_gap, gap_at}
use Rattle.answers.specs.declared.Under.{Under}
use Rattle.answers.specs.declared.Under.TheVariants.{Cell, Gap, Nothing}

-- the numbers of the entries do not matter for a gap
gap_number : (k m x : ℕ) (ps : List Placed) → is_gap (pointed k x ps) ≡ is_gap (pointed m x ps)
unfolding pointed is_gap
gap_number k m x [] = refl
gap_number k m x (p ∷ ps) = go (gap_number (k + 1) (m + 1) x ps) (covers p x) (closes p x)
  where
    go : is_gap (pointed (k + 1) x ps) ≡ is_gap (pointed (m + 1) x ps) → (a b : Bool) →
        is_gap (cond a (Cell k) (cond b (gap_before ps) (pointed (k + 1) x ps)))
        ≡ is_gap (cond a (Cell m) (cond b (gap_before ps) (pointed (m + 1) x ps)))
    go rest true b = refl
    go rest false true = refl
    go rest false false = rest

pub gap_told : (k x : ℕ) (ps : List Placed) (u v : Under ℕ) → u ≡ pointed k x ps → u ≡ v → is_gap v ≡ gap_at x ps
unfolding gap_at
gap_told k x ps u v e d = ap is_gap (sym d ∙ e) ∙ gap_number k 0 x ps

-- what is told is no gap
pub no_gap : (u : Under ℕ) → (u ≡ Gap → ⊥) → false ≡ is_gap u
unfolding is_gap
no_gap (Cell n) h = refl
no_gap Gap h = absurd (h refl)
no_gap Nothing h = refl
