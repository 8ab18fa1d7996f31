-- Cases on what is printed, about the definitions.
use Rattle.std.specs.Prelude.{◌≡◌, refl, [], ◌∷◌}
use Rattle.text.specs.Decimal.{digits, digits_in}
use Rattle.output.specs.inner.Printing.{decimal, line}

-- "0" and "65535", the largest width
pub numbers : decimal 0 ∷ decimal 65535 ∷ [] ≡ (48 ∷ []) ∷ (54 ∷ 53 ∷ 53 ∷ 51 ∷ 53 ∷ []) ∷ []
unfolding decimal digits digits_in
numbers = refl

-- "0 10", "3 6 7 2", each with a line feed
pub lines : line (0 ∷ 10 ∷ []) ∷ line (3 ∷ 6 ∷ 7 ∷ 2 ∷ []) ∷ []
    ≡ (48 ∷ 32 ∷ 49 ∷ 48 ∷ 10 ∷ []) ∷ (51 ∷ 32 ∷ 54 ∷ 32 ∷ 55 ∷ 32 ∷ 50 ∷ 10 ∷ []) ∷ []
unfolding line decimal digits digits_in
lines = refl
