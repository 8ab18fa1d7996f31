-- The sum of the widths of a box's columns: when it is 0, and how large it is at the least.
use mathlib.Core.Path.{◌≡◌, refl, sym, ap, ◌∙◌}
use mathlib.Core.List.{List, [], ◌∷◌}
use Prim.Native.Nat.{ℕ, zero, suc, ◌+◌, ◌*◌, ◌-◌, ◌/◌, ◌≤◌, ◌<◌}
use native.Mathlib.Nat.{not-suc-le-zero, le_of_suc-le-suc, div-add-mod', mod-lt}
use native.Mathlib.Omega.{arith}
use lib.ListN.{get_or, take, drop}
use lib.Seq.{take-nil, take-add, get_or-drop}
use Rattle.common.specs.Lists.{sum}
use Rattle.common.proofs.Sum.{sum_append, sum_take_le}
use Rattle.columns.specs.Boxes.{Box}
use Rattle.placement.specs.Place.{across}
use Rattle.placement.specs.Promise.{Narrow}

part_zero : (n : ℕ) (l : List ℕ) → sum (take n l) ≡ 0 → (i : ℕ) → i < n → get_or l i 0 ≡ 0
unfolding sum
part_zero zero l e i h = absurd (not-suc-le-zero h)
part_zero (suc n) [] e i h = refl
part_zero (suc n) (x ∷ l) e zero h = omega arith
part_zero (suc n) (x ∷ l) e (suc i) h = part_zero n l (omega arith) i (le_of_suc-le-suc h)

zero_part : (n : ℕ) (l : List ℕ) → ((i : ℕ) → i < n → get_or l i 0 ≡ 0) → sum (take n l) ≡ 0
unfolding sum
zero_part zero l f = refl
zero_part (suc n) [] f = refl
zero_part (suc n) (x ∷ l) f = omega (arith, f 0 (omega arith), zero_part n l (λ i h. f (suc i) (omega arith)))

-- n figures of at least v sum to n times v at the least
floor_part : (n v : ℕ) (l : List ℕ) → ((i : ℕ) → i < n → v ≤ get_or l i 0) → n * v ≤ sum (take n l)
unfolding sum
floor_part zero v l f = omega arith
floor_part (suc n) v [] f = omega (arith, f 0 (omega arith), rw (take-nil n) at (floor_part n v [] (λ i h. f (suc i) (omega arith))))
floor_part (suc n) v (x ∷ l) f = omega (arith, f 0 (omega arith), floor_part n v l (λ i h. f (suc i) (omega arith)))

module _ (ws : List ℕ) (b : Box) where
  in_part : (i : ℕ) → get_or (drop b.first ws) i 0 ≡ get_or ws (b.first + i) 0
  in_part i = get_or-drop b.first ws i 0

  -- they sum to 0 exactly if each is 0
  pub spread_narrow : across ws b ≡ 0 → Narrow ws b
  spread_narrow e j h l =
      let k : b.first + (j - b.first) ≡ j = omega arith in
      ap (λ (m : ℕ). get_or ws m 0) (sym k)
      ∙ sym (in_part (j - b.first))
      ∙ part_zero b.span (drop b.first ws) e (j - b.first) (omega arith)

  pub narrow_spread : Narrow ws b → across ws b ≡ 0
  narrow_spread f = zero_part b.span (drop b.first ws) (λ i h. in_part i ∙ f (b.first + i) (omega arith) (omega arith))

  -- each is v at the least
  pub spread_floor : (v : ℕ) → ((j : ℕ) → b.first ≤ j → j < b.first + b.span → v ≤ get_or ws j 0) → b.span * v ≤ across ws b
  spread_floor v f =
      floor_part b.span v (drop b.first ws) (λ i h. rw (in_part i) (f (b.first + i) (omega arith) (omega arith)))

  -- the columns before the box, and its own
  pub spread_after : sum (take (b.first + b.span) ws) ≡ sum (take b.first ws) + across ws b
  spread_after = rw (take-add b.first b.span ws) (sum_append (take b.first ws) (take b.span (drop b.first ws)))

  -- the same, of a box that starts where the row has come to
  pub spread_at : (p : ℕ) → b.first ≡ p → sum (take (p + b.span) ws) ≡ sum (take p ws) + across ws b
  spread_at p e =
      ap (λ (m : ℕ). sum (take (m + b.span) ws)) (sym e) ∙ spread_after ∙ ap (λ (m : ℕ). sum (take m ws) + across ws b) e

  pub spread_sum : across ws b ≤ sum ws
  spread_sum = omega (arith, spread_after, sum_take_le ws (b.first + b.span))

-- a figure is less than its quotient and one more, times the divisor
pub quotient_over : (x s : ℕ) → 1 ≤ s → x < s * (x / s) + s
quotient_over x s h = omega (arith, div-add-mod' x s, mod-lt x {m = s} h)
