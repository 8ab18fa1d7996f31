-- EightPost bytes as one number.
use Rattle.std.specs.Prelude.{◌≡◌, List, [], ◌∷◌, map, ℕ, zero, suc, ◌+◌, ◌-◌, ◌*◌, ◌/◌, ◌%◌, ◌≤◌, ◌<◌, length, get_or, take, drop}
use Rattle.common.specs.Lists.{All}

-- bytes as one number, the first lowest
abbrev pub as_number : List ℕ → ℕ
as_number [] = 0
as_number (d ∷ ds) = d + 256 * as_number ds

-- eight bytes; eight below 128; eight that are 0 or 1

pub record Octets (ds : List ℕ) : Type 0 where
  pub long : length ds ≡ 8
  pub small : All (λ d. d < 256) ds

pub record Low (ds : List ℕ) : Type 0 where
  pub long : length ds ≡ 8
  pub small : All (λ d. d < 128) ds

pub record Bits (ds : List ℕ) : Type 0 where
  pub long : length ds ≡ 8
  pub small : All (λ d. d ≤ 1) ds

-- the eight bytes of s from a place on are a number
pub record EightPost (s : List ℕ) (at r : ℕ) : Type 0 where
  pub octets : Octets (take 8 (drop at s))
  pub is : r ≡ as_number (take 8 (drop at s))

-- eight digits 1, and eight digits 127

abbrev pub all_ones : ℕ
all_ones = 72340172838076673

abbrev pub all_low : ℕ
all_low = 9187201950435737471

-- 1 from 128 on; from 33 on; below 32 and for 127

abbrev pub top : ℕ → ℕ
top d = d / 128

abbrev pub char : ℕ → ℕ
char d = (d + 95) / 128

abbrev pub odd : ℕ → ℕ
odd d = (1 - (d + 96) / 128) + (d + 1) / 128

-- by what is 1 for a character and 0 for a space: 1 after a space

unfoldable pub after_from : ℕ → List ℕ → List ℕ
after_from gap [] = []
after_from gap (c ∷ cs) = gap ∷ after_from (1 - c) cs

-- what each adds to the size: 1 for a character, and 1 for a space before it
unfoldable pub adds_of : List ℕ → List ℕ → List ℕ
adds_of [] ss = []
adds_of (c ∷ cs) [] = []
adds_of (c ∷ cs) (a ∷ ss) = (c + c * a) ∷ adds_of cs ss

-- how many stand before the first that is not 0
unfoldable pub first_one : List ℕ → ℕ
first_one [] = 0
first_one (zero ∷ ds) = suc (first_one ds)
first_one (suc d ∷ ds) = 0

-- the sum of the digits
abbrev pub total : List ℕ → ℕ
total [] = 0
total (d ∷ ds) = d + total ds

-- an answer goes digit by digit: it is at most this, and if these are the number's digits, then those are the answer's
pub record Digitwise (Given : List ℕ → Type 0) (f : ℕ → ℕ) (most w r : ℕ) : Type 0 where
  pub bounded : r ≤ most
  pub digits : (ds : List ℕ) → Given ds → w ≡ as_number ds → r ≡ as_number (map f ds)

-- what is cut off before the first odd digit: how many, their sum, and what stands after a space there
pub record CutPost (os xs ss : List ℕ) (count size gap : ℕ) : Type 0 where
  pub counted : count ≡ first_one os
  pub sized : size ≡ as_number (take (first_one os) xs) % 255
  pub after : gap ≡ get_or ss (first_one os) 0
