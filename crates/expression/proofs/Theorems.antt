-- Each text has at most one tree, and the answer for a text is that of its tree.
use mathlib.Core.Bool.{Bool, true, false, cond}
use mathlib.Core.Path.{◌≡◌, refl, sym, ap, ◌∙◌}
use mathlib.Core.Logic.{◌↔◌}
use Rattle.std.specs.Prelude.{Option, None, Some, Ok, Err}
use Rattle.common.specs.declared.Reason.TheVariants.{NoExpression, OutOfBounds}
use mathlib.Core.List.{List}
use Prim.Native.Nat.{ℕ, ◌+◌, ◌≤◌}
use native.Mathlib.Nat.{pow-le-pow_right}
use native.Mathlib.Omega.{arith}
use lib.Dec.{eqb, leb}
use lib.IntN.{ℤ, pos, nat_abs, ◌+ℤ◌, ◌-ℤ◌, ◌*ℤ◌}
use lib.Signed.{quot_z}
use lib.ListN.{length}
use borrow.Author.Tests.{leb-true, eq-eqb, ne_eqb}
use Rattle.expression.specs.declared.Op.{Op}
use Rattle.expression.specs.declared.Op.TheVariants.{Plus, Minus, Times, Over}
use Rattle.expression.specs.Tree.{Tree, number, node, limit, within, result_of, both, value}
use Rattle.expression.specs.Grammar.{decimal_from, Numeral, Level, Reads, digits, bracket, one_factor, product, one_term, sum, ReadsAs}
use Rattle.expression.specs.Machine.{Kit, run, start}
use Rattle.expression.specs.Answers.{values, answer_by, answer_of}
use Rattle.expression.proofs.Bytes.{decimal_below}
use Rattle.expression.proofs.Complete.{Meaning, complete}
use Rattle.expression.proofs.Sound.{sound}

Some-injective : {A : Type 0} (x y : A) → Some x ≡ Some y → x ≡ y
Some-injective x y e = cc

-- results that are trees
abbrev trees : Kit Tree
trees = record { lit = number; join = node }

trees_mean : Meaning trees
trees_mean = record { of = λ t. t; of_number = λ n. refl; of_node = λ o a b. refl }

abbrev values_mean : Meaning values
unfolding value
values_mean = record { of = value; of_number = λ n. refl; of_node = λ o a b. refl }

pub one_reading : (w : List ℕ) (t u : Tree) → ReadsAs w t → ReadsAs w u → t ≡ u
unfolding trees_mean
one_reading w t u r q =
    Some-injective t u (sym (complete trees trees_mean w t r) ∙ complete trees trees_mean w u q)

worth_of : (w : List ℕ) (t : Tree) → ReadsAs w t → run values start w ≡ Some (value t)
unfolding value
worth_of w t r = complete values values_mean w t r

read : (w : List ℕ) (x : Option ℤ) → run values start w ≡ Some x → (t : Tree) × ReadsAs w t × (value t ≡ x)
unfolding value
read w x e = sound values values_mean w x e

-- a value is answered exactly if there is a tree with that value
pub value_answered : (w : List ℕ) (z : ℤ) → (answer_of w ≡ Ok z) ↔ ((t : Tree) × ReadsAs w t × (value t ≡ Some z))
unfolding answer_of answer_by
value_answered w z = ((λ e. to (run values start w) refl e), λ h. ap answer_by (worth_of w h.0 h.1 ∙ ap Some h.2))
  where
    to : (r : Option (Option ℤ)) → run values start w ≡ r → answer_by r ≡ Ok z → (t : Tree) × ReadsAs w t × (value t ≡ Some z)
    to None e q = let n : ◌≡◌ {A = ℕ} 0 1 = cc in absurd (omega arith)
    to (Some None) e q = let n : ◌≡◌ {A = ℕ} 0 1 = cc in absurd (omega arith)
    to (Some (Some y)) e q =
        let s : y ≡ z = cc in
        read w (Some z) (e ∙ ap (λ (x : ℤ). Some (Some x)) s)

-- 14 is answered exactly if there is a tree without a value
pub outside_answered : (w : List ℕ) → (answer_of w ≡ Err OutOfBounds) ↔ ((t : Tree) × ReadsAs w t × (value t ≡ None))
unfolding answer_of answer_by
outside_answered w = ((λ e. to (run values start w) refl e), λ h. ap answer_by (worth_of w h.0 h.1 ∙ ap Some h.2))
  where
    to : (r : Option (Option ℤ)) → run values start w ≡ r → answer_by r ≡ Err OutOfBounds → (t : Tree) × ReadsAs w t × (value t ≡ None)
    to None e q = let n : ◌≡◌ {A = ℕ} 0 1 = cc in absurd (omega arith)
    to (Some None) e q = read w None e
    to (Some (Some y)) e q = let n : ◌≡◌ {A = ℕ} 0 1 = cc in absurd (omega arith)

-- 13 is answered exactly if there is no tree
pub none_answered : (w : List ℕ) → (answer_of w ≡ Err NoExpression) ↔ ((t : Tree) → ReadsAs w t → ⊥)
unfolding answer_of answer_by
none_answered w = ((λ e t r. clash (value t) (sym (ap answer_by (worth_of w t r)) ∙ e)), λ h. to (run values start w) refl h)
  where
    clash : (x : Option ℤ) → answer_by (Some x) ≡ Err NoExpression → ⊥
    clash None q = let n : ◌≡◌ {A = ℕ} 0 1 = cc in omega arith
    clash (Some y) q = let n : ◌≡◌ {A = ℕ} 0 1 = cc in omega arith

    to : (r : Option (Option ℤ)) → run values start w ≡ r → ((t : Tree) → ReadsAs w t → ⊥) → answer_by r ≡ Err NoExpression
    to None e h = refl
    to (Some x) e h = let q = read w x e in absurd (h q.0 q.1)

-- every value that is answered is within the bounds
within_bound : (y z : ℤ) → within y ≡ Some z → nat_abs z ≤ limit
within_bound y z e = go (leb (nat_abs y) limit) refl e
  where
    go : (b : Bool) → leb (nat_abs y) limit ≡ b → cond b (Some y) None ≡ Some z → nat_abs z ≤ limit
    go true h q = omega (arith, leb-true (nat_abs y) limit h, ap nat_abs (Some-injective y z q))
    go false h q = let n : ◌≡◌ {A = ℕ} 0 1 = cc in absurd (omega arith)

result_bound : (o : Op) (x y z : ℤ) → result_of o x y ≡ Some z → nat_abs z ≤ limit
unfolding result_of
result_bound Plus x y z e = within_bound (x +ℤ y) z e
result_bound Minus x y z e = within_bound (x -ℤ y) z e
result_bound Times x y z e = within_bound (x *ℤ y) z e
result_bound Over x y z e = go (eqb (nat_abs y) 0) e
  where
    go : (b : Bool) → cond b None (within (quot_z x y)) ≡ Some z → nat_abs z ≤ limit
    go true q = let n : ◌≡◌ {A = ℕ} 0 1 = cc in absurd (omega arith)
    go false q = within_bound (quot_z x y) z q

both_bound : (o : Op) (x y : Option ℤ) (z : ℤ) → both o x y ≡ Some z → nat_abs z ≤ limit
unfolding both
both_bound o None y z e = let n : ◌≡◌ {A = ℕ} 0 1 = cc in absurd (omega arith)
both_bound o (Some x) None z e = let n : ◌≡◌ {A = ℕ} 0 1 = cc in absurd (omega arith)
both_bound o (Some x) (Some y) z e = result_bound o x y z e

number_bound : (w : List ℕ) (z : ℤ) → Numeral w → value (number (decimal_from 0 w)) ≡ Some z → nat_abs z ≤ limit
unfolding value
number_bound w z h e =
    let l : 0 + length w ≤ 9 = omega (arith, h.at_most_nine) in
    omega
    (arith, decimal_below w 0 0 h.digits (omega arith), pow-le-pow_right {n = 10} (omega arith) {i = 0 + length w} {j = 9} l, ap nat_abs (Some-injective (pos (decimal_from 0 w)) z e))

pub value_bound : {l : Level} {d : ℕ} {w : List ℕ} {t : Tree} → Reads l d w t → (z : ℤ) → value t ≡ Some z → nat_abs z ≤ limit
unfolding value
value_bound (digits {d} {w} h) = λ z e. number_bound w z h e
value_bound (bracket r) = value_bound r
value_bound (one_factor r) = value_bound r
value_bound (product {o} {d} {v} {w} {a} {b} i r q) = λ z e. both_bound o (value a) (value b) z e
value_bound (one_term r) = value_bound r
value_bound (sum {o} {d} {v} {w} {a} {b} i r q) = λ z e. both_bound o (value a) (value b) z e

pub answer_bound : (w : List ℕ) (z : ℤ) → answer_of w ≡ Ok z → nat_abs z ≤ limit
answer_bound w z a = let h = (value_answered w z).0 a in value_bound h.1 z h.2

-- the value of a sum, a difference, a product and a quotient, from the values of its sides

module _ (a b : Tree) (x y : ℤ) (left : value a ≡ Some x) (right : value b ≡ Some y) where
  pub plus_value : value (node Plus a b) ≡ within (x +ℤ y)
  unfolding value both result_of
  plus_value = rw (left, right)

  pub minus_value : value (node Minus a b) ≡ within (x -ℤ y)
  unfolding value both result_of
  minus_value = rw (left, right)

  pub times_value : value (node Times a b) ≡ within (x *ℤ y)
  unfolding value both result_of
  times_value = rw (left, right)

  pub over_value : (nat_abs y ≡ 0 → ⊥) → value (node Over a b) ≡ within (quot_z x y)
  unfolding value both result_of
  over_value h = rw (left, right, ne_eqb (nat_abs y) 0 h)

  pub over_zero : nat_abs y ≡ 0 → value (node Over a b) ≡ None
  unfolding value both result_of
  over_zero h = rw (left, right, eq-eqb (nat_abs y) 0 h)
