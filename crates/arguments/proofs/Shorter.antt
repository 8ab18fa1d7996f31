-- Buffers of which none is shorter than it must be.
use mathlib.Core.Path.{◌≡◌, refl, sym, ◌∙◌}
use mathlib.Core.Bool.{Bool, true, false, ◌||◌}
use mathlib.Core.List.{[], ◌∷◌}
use Prim.Native.Nat.{ℕ, ◌≤◌}
use native.Mathlib.Omega.{arith}
use lib.Dec.{ltb}
use borrow.Author.Tests.{ltb-false}
use Rattle.common.specs.Limits.{max_lines, max_entries}
use Rattle.arguments.specs.Arguments.{any_shorter}

or_false : (b : Bool) → (b || false) ≡ b
or_false true = refl
or_false false = refl

-- neither of two tests
neither : (b c : Bool) → (b || c) ≡ false → (b ≡ false) × (c ≡ false)
neither false false e = (refl, refl)
neither false true e = let z : ◌≡◌ {A = ℕ} 0 1 = cc in absurd (omega arith)
neither true c e = let z : ◌≡◌ {A = ℕ} 0 1 = cc in absurd (omega arith)

pub one_shorter : (n a : ℕ) → any_shorter n (a ∷ []) ≡ ltb a n
unfolding any_shorter
one_shorter n a = or_false (ltb a n)

-- buffers of which none is shorter
pub one_fit : (n a : ℕ) → any_shorter n (a ∷ []) ≡ false → n ≤ a
one_fit n a e = ltb-false a n (sym (one_shorter n a) ∙ e)

pub three_fit : (n a b c : ℕ) → any_shorter n (a ∷ b ∷ c ∷ []) ≡ false → (n ≤ a) × (n ≤ b) × (n ≤ c)
unfolding any_shorter
three_fit n a b c e =
    let (p, e₁) = neither (ltb a n) (ltb b n || (ltb c n || false)) e in
    let (q, e₂) = neither (ltb b n) (ltb c n || false) e₁ in
    let (r, e₃) = neither (ltb c n) false e₂ in
    (ltb-false a n p, ltb-false b n q, ltb-false c n r)

pub two_fit : (n a b : ℕ) → any_shorter n (a ∷ b ∷ []) ≡ false → (n ≤ a) × (n ≤ b)
unfolding any_shorter
two_fit n a b e =
    let (p, e₁) = neither (ltb a n) (ltb b n || false) e in
    let (q, e₂) = neither (ltb b n) false e₁ in
    (ltb-false a n p, ltb-false b n q)

-- one buffer for the columns and two for the entries
pub layout_fits : (a b c : ℕ) → (any_shorter max_lines (a ∷ []) || any_shorter max_entries (b ∷ c ∷ [])) ≡ false
    → (max_lines ≤ a) × (max_entries ≤ b) × (max_entries ≤ c)
layout_fits a b c e =
    let (p, q) = neither (any_shorter max_lines (a ∷ [])) (any_shorter max_entries (b ∷ c ∷ [])) e in
    let (f, g) = two_fit max_entries b c q in
    (one_fit max_lines a p, f, g)
