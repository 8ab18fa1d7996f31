-- Characters and spaces, and what they add to the size of a text.
use Rattle.std.specs.Prelude.{◌≡◌, cond, List, [], ◌∷◌, ℕ, ◌+◌, ◌≤◌, eqb, length, take}
use Rattle.common.specs.Lists.{All}
use Rattle.swar.specs.declared.Plain.{Plain}

-- a space, or a character 1 wide
pub record IsPlain (b : ℕ) : Type 0 where
  pub least : 32 ≤ b
  pub most : b ≤ 126

-- 1 for each character, and 1 for each space before one; gap is 1 where a space stands before the first
unfoldable pub plain_sum : ℕ → List ℕ → ℕ
plain_sum gap [] = 0
plain_sum gap (b ∷ bs) = cond (eqb b 32) (plain_sum 1 bs) (1 + gap + plain_sum 0 bs)

-- 1 where a space stands last
unfoldable pub plain_gap : ℕ → List ℕ → ℕ
plain_gap gap [] = gap
plain_gap gap (b ∷ bs) = plain_gap (cond (eqb b 32) 1 0) bs

-- a front of the bytes
pub record PlainFront (t : List ℕ) (gap : ℕ) (r : Plain) : Type 0 where
  pub inside : r.count ≤ length t
  pub few : r.count ≤ 8
  pub plain : All IsPlain (take r.count t)
  pub size : r.size ≡ plain_sum gap (take r.count t)
  pub last : r.gap ≡ plain_gap gap (take r.count t)
  pub small : r.size ≤ 16
  pub one : r.gap ≤ 1
