-- The length of a value's decimal writing: 1 to 14, and that of the value of the text's tree.
use mathlib.Core.Path.{◌≡◌, refl, ap, ◌∙◌}
use Rattle.std.specs.Prelude.{Option, None, Some, Result, Ok, Err}
use mathlib.Core.Logic.{◌⊎◌, inl, inr}
use Rattle.common.specs.declared.Reason.{Reason}
use Rattle.common.specs.declared.Reason.TheVariants.{NoExpression, OutOfBounds}
use Rattle.expression.specs.Machine.{run, start}
use mathlib.Core.List.{List}
use Prim.Native.Nat.{ℕ, suc, ◌+◌, ◌≤◌}
use native.Mathlib.Omega.{arith}
use lib.IntN.{ℤ, pos, negsuc, nat_abs}
use Rattle.std.specs.Prelude.{int_lt}
use Rattle.std.specs.Int.{from_bool}
use borrow.Author.Tests.{le-ltb}
use Rattle.text.specs.Decimal.{digits, writing}
use Rattle.text.proofs.Digits.{digits_pos, digits_le}
use Rattle.expression.specs.Tree.{Tree, limit, value}
use Rattle.expression.specs.Grammar.{ReadsAs}
use Rattle.expression.specs.Answers.{values, answer_by, answer_of}
use Rattle.expression.proofs.Theorems.{answer_bound, value_answered, outside_answered, none_answered}
use Rattle.evaluator.specs.Measures.{written, length_of, measure_by, measure_of, size_of}
use Rattle.evaluator.specs.inner.Measures.{Length}

pub thirteen : (n : ℕ) → n ≤ limit → digits n ≤ 13
thirteen n h = digits_le 12 n (omega arith)

pub ranged : (z : ℤ) (r : ℕ) → nat_abs z ≤ limit → r ≡ length_of z → Length z r
unfolding written writing
ranged (pos n) r h e = record { is = e; least = omega (arith, digits_pos n); most = omega (arith, thirteen n h) }
ranged (negsuc n) r h e = record { is = e; least = omega arith; most = omega (arith, thirteen (suc n) h) }

-- the digits of its size, and one where it is below nought
pub signed_length : (z : ℤ) (s u r : ℕ) → s ≡ from_bool (int_lt z (pos 0)) → u ≡ nat_abs z → r ≡ digits u → s + r ≡ length_of z
unfolding written writing
signed_length (pos n) s u r a b d =
    let e : s ≡ 0 = a ∙ ap from_bool (le-ltb n 0 (omega arith)) in
    let f : r ≡ digits n = d ∙ ap digits b in
    omega arith
signed_length (negsuc n) s u r a b d =
    let f : r ≡ digits (suc n) = d ∙ ap digits b in
    omega arith

-- the length of a value is 1 to 14
pub length_range : (z : ℤ) → nat_abs z ≤ limit → Length z (length_of z)
length_range z h = ranged z (length_of z) h refl

-- a size that is answered is 1 to 14
pub size_range : (w : List ℕ) (s : ℕ) → measure_of w ≡ Ok s → (1 ≤ s) × (s ≤ 14)
unfolding measure_of measure_by
size_range w s e = go (answer_of w) refl e
  where
    go : (a : Result ℤ Reason) → answer_of w ≡ a → measure_by a ≡ Ok s → (1 ≤ s) × (s ≤ 14)
    go (Ok y) q h =
        let z : length_of y ≡ s = cc in
        let l = length_range y (answer_bound w y q) in
        omega (arith, l)
    go (Err why) q h = let z : ◌≡◌ {A = ℕ} 0 1 = cc in absurd (omega arith)

-- and so it is at most 14 for every text
pub size_le : (w : List ℕ) → size_of (measure_of w) ≤ 14
size_le w = go (measure_of w) refl
  where
    go : (m : Result ℕ Reason) → measure_of w ≡ m → size_of m ≤ 14
    go (Ok n) e = (size_range w n e).1
    go (Err why) e = omega arith

-- a text without a size is not an expression, or has no value
pub told_why : (w : List ℕ) (why : Reason) → measure_of w ≡ Err why → (why ≡ NoExpression) ⊎ (why ≡ OutOfBounds)
unfolding measure_of measure_by answer_of answer_by
told_why w why e = go (run values start w) e
  where
    go : (r : Option (Option ℤ)) → measure_by (answer_by r) ≡ Err why → (why ≡ NoExpression) ⊎ (why ≡ OutOfBounds)
    go None h = inl cc
    go (Some None) h = inr cc
    go (Some (Some z)) h = let z : ◌≡◌ {A = ℕ} 0 1 = cc in absurd (omega arith)

-- by the tree: its value's length, 13 where there is no tree, 14 where the tree has no value

pub tree_size : (w : List ℕ) (t : Tree) (z : ℤ) → ReadsAs w t → value t ≡ Some z → measure_of w ≡ Ok (length_of z)
unfolding measure_of measure_by
tree_size w t z r e = ap measure_by ((value_answered w z).1 (t, r, e))

pub tree_none : (w : List ℕ) → ((t : Tree) → ReadsAs w t → ⊥) → measure_of w ≡ Err NoExpression
unfolding measure_of measure_by
tree_none w h = ap measure_by ((none_answered w).1 h)

pub tree_outside : (w : List ℕ) (t : Tree) → ReadsAs w t → value t ≡ None → measure_of w ≡ Err OutOfBounds
unfolding measure_of measure_by
tree_outside w t r e = ap measure_by ((outside_answered w).1 (t, r, e))
