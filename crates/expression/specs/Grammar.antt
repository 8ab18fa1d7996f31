-- Which texts read as which trees: the grammar, word for word.
use Rattle.std.specs.Prelude.{Bool, true, ◌&&◌, ◌≡◌, List, [], ◌∷◌, ◌++◌, ℕ, suc, ◌+◌, ◌*◌, ◌-◌, ◌≤◌, leb, length}
use Rattle.expression.specs.declared.Op.{Op}
use Rattle.expression.specs.declared.Op.TheVariants.{Plus, Minus, Times, Over}
use Rattle.expression.specs.Tree.{Tree, number, node}

unfoldable pub digit : ℕ → Bool
digit c = leb 48 c && leb c 57

unfoldable pub all_digits : List ℕ → Bool
all_digits [] = true
all_digits (c ∷ cs) = digit c && all_digits cs

-- the number whose digits so far are n and whose further digits are the list's
unfoldable pub decimal_from : ℕ → List ℕ → ℕ
decimal_from n [] = n
decimal_from n (c ∷ cs) = decimal_from (10 * n + (c - 48)) cs

pub record Numeral (w : List ℕ) : Type 0 where
  pub digits : all_digits w ≡ true
  pub some_digit : 1 ≤ length w
  pub at_most_nine : length w ≤ 9

pub data Loose : Op → Type 0 where
  plus : Loose Plus
  minus : Loose Minus

pub data Tight : Op → Type 0 where
  times : Tight Times
  over : Tight Over

-- + - * /
abbrev pub sign : Op → ℕ
sign Plus = 43
sign Minus = 45
sign Times = 42
sign Over = 47

pub data Level : Type 0 where
  factor term expr : Level

-- `Reads l d w t`: the text w, with brackets at most d deep, is an l and reads as the tree t
pub data Reads : Level → ℕ → List ℕ → Tree → Type 0 where
  digits : {d : ℕ} {w : List ℕ} → Numeral w → Reads factor d w (number (decimal_from 0 w))
  bracket : {d : ℕ} {w : List ℕ} {t : Tree} → Reads expr d w t → Reads factor (suc d) (40 ∷ (w ++ (41 ∷ []))) t
  one_factor : {d : ℕ} {w : List ℕ} {t : Tree} → Reads factor d w t → Reads term d w t
  product : {o : Op} {d : ℕ} {v w : List ℕ} {a b : Tree} → Tight o → Reads term d v a → Reads factor d w b → Reads term d (v ++ (sign o ∷ w)) (node o a b)
  one_term : {d : ℕ} {w : List ℕ} {t : Tree} → Reads term d w t → Reads expr d w t
  sum : {o : Op} {d : ℕ} {v w : List ℕ} {a b : Tree} → Loose o → Reads expr d v a → Reads term d w b → Reads expr d (v ++ (sign o ∷ w)) (node o a b)

-- a text with brackets at most 32 deep is a sum, and this is its tree
abbrev pub ReadsAs : List ℕ → Tree → Type 0
ReadsAs w t = Reads expr 32 w t
