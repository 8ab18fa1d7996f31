-- Numbers as a sheet and the settings write them.
use Rattle.std.specs.Prelude.{Bool, true, false, not, cond, ◌&&◌, List, [], ◌∷◌, ℕ, ◌+◌, ◌-◌, ◌*◌, leb, eqb}
use Rattle.text.specs.Decimal.{Number, plain, minus}

abbrev pub is_digit : ℕ → Bool
is_digit b = leb 48 b && leb b 57

unfoldable pub all_digits : List ℕ → Bool
all_digits [] = true
all_digits (b ∷ bs) = is_digit b && all_digits bs

-- the value of digits, after others of value v
unfoldable pub value_from : ℕ → List ℕ → ℕ
value_from v [] = v
value_from v (b ∷ bs) = value_from (v * 10 + (b - 48)) bs

-- digits without a leading zero: nothing stands after a first 0
unfoldable pub is_natural : List ℕ → Bool
is_natural [] = false
is_natural (b ∷ []) = is_digit b
is_natural (b ∷ c ∷ bs) = is_digit b && not (eqb b 48) && all_digits (c ∷ bs)

-- the number that bytes write, if they do
pub data Numeral : Type 0 where
  numeral : Number → Numeral
  unwritten : Numeral

unfoldable pub natural_of : List ℕ → Numeral
natural_of bs = cond (is_natural bs) (numeral (plain (value_from 0 bs))) unwritten

-- a minus stands only before a nonzero number
unfoldable pub negative_of : List ℕ → Numeral
negative_of bs = cond (is_natural bs && not (eqb (value_from 0 bs) 0)) (numeral (minus (value_from 0 bs))) unwritten

unfoldable pub number_of : List ℕ → Numeral
number_of [] = unwritten
number_of (b ∷ bs) = cond (eqb b 45) (negative_of bs) (natural_of (b ∷ bs))

-- 0 to m
abbrev pub up_to : ℕ → Number → Bool
up_to m (plain v) = leb v m
up_to m (minus v) = false

-- at most m from 0
abbrev pub within : ℕ → Number → Bool
within m (plain v) = leb v m
within m (minus v) = leb v m

abbrev pub magnitude : Number → ℕ
magnitude (plain v) = v
magnitude (minus v) = v
