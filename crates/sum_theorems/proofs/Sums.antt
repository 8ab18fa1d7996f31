-- What holds of every calc line, by the answer for its text.
use Rattle.std.specs.Prelude.{Option, None, Some, Err}
use Rattle.common.specs.declared.Reason.TheVariants.{NoExpression, OutOfBounds}
use mathlib.Core.Bool.{Bool, true, false, cond, ◌&&◌}
use mathlib.Core.Path.{◌≡◌, refl, sym, ap, ◌∙◌}
use Prim.Native.Nat.{ℕ}
use native.Mathlib.Omega.{arith}
use lib.Dec.{eqb}
use lib.IntN.{ℤ}
use Rattle.expression.specs.Machine.{run, start}
use Rattle.expression.specs.Answers.{values, answer_by, answer_of}
use Rattle.expression.proofs.Theorems.{one_reading, value_answered, outside_answered, none_answered}
use Rattle.evaluator.specs.Measures.{measure_by, measure_of, no_expression, no_value, size_of}
use Rattle.kinds.specs.Kinds.{kind_number, img_kind}
use Rattle.text.specs.Text.{text_size, with_img}
use Rattle.line.specs.Fields.{is_calc, own_size}
use Rattle.sum_theorems.specs.Sums.{OneTree, CalcLines}

none_of : (r : Option (Option ℤ)) → no_expression (measure_by (answer_by r)) ≡ true → answer_by r ≡ Err NoExpression
unfolding answer_by measure_by
none_of None e = refl
none_of (Some None) e = let n : ◌≡◌ {A = ℕ} 0 1 = cc in absurd (omega arith)
none_of (Some (Some z)) e = let n : ◌≡◌ {A = ℕ} 0 1 = cc in absurd (omega arith)

outside_of : (r : Option (Option ℤ)) → no_value (measure_by (answer_by r)) ≡ true → answer_by r ≡ Err OutOfBounds
unfolding answer_by measure_by
outside_of None e = let n : ◌≡◌ {A = ℕ} 0 1 = cc in absurd (omega arith)
outside_of (Some None) e = refl
outside_of (Some (Some z)) e = let n : ◌≡◌ {A = ℕ} 0 1 = cc in absurd (omega arith)

-- of a calc line each check is that of its text
calc_and : (a b : Bool) → a ≡ true → (a && b) ≡ b
calc_and true b e = refl
calc_and false b e = let n : ◌≡◌ {A = ℕ} 0 1 = cc in absurd (omega arith)

calc_size : (a : Bool) (m n : ℕ) → a ≡ true → cond a m n ≡ m
calc_size true m n e = refl
calc_size false m n e = let k : ◌≡◌ {A = ℕ} 0 1 = cc in absurd (omega arith)

pub one_tree : OneTree
one_tree = one_reading

pub calc_lines : CalcLines
unfolding measure_of answer_of own_size measure_by
calc_lines l c =
    record {
      thirteen_only = λ e. (none_answered l.text).0 (none_of (run values start l.text) (sym (calc_and (is_calc l) (no_expression (measure_of l.text)) c) ∙ e));
      thirteen_then = λ h. calc_and (is_calc l) (no_expression (measure_of l.text)) c ∙ ap (λ a. no_expression (measure_by a)) ((none_answered l.text).1 h);
      fourteen_only = λ e. (outside_answered l.text).0 (outside_of (run values start l.text) (sym (calc_and (is_calc l) (no_value (measure_of l.text)) c) ∙ e));
      fourteen_then = λ h. calc_and (is_calc l) (no_value (measure_of l.text)) c ∙ ap (λ a. no_value (measure_by a)) ((outside_answered l.text).1 h);
      size = λ t z r v.
          calc_size (is_calc l) (size_of (measure_of l.text)) (with_img (eqb (kind_number l.kind) img_kind) (text_size l.text)) c
          ∙ ap (λ a. size_of (measure_by a)) ((value_answered l.text z).1 (t, r, v));
    }
