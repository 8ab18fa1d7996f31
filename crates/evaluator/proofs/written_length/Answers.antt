-- `evaluator::written_length` meets its contract. The digits, and one for the sign.
use native.Mathlib.Omega.{arith}
use Rattle.std.proofs.Math.Facts.{to_z-of_z}
use Rattle.evaluator.proofs.Lengths.{ranged, signed_length}
use Rattle.evaluator.proofs.written_length.Goals as goal

pub overflow_add-result : goal.overflow_add-result
overflow_add-result c =
    let e = signed_length c.args.z _ _ _ (simp (to_z-of_z c.ranges.z) at c.from.ensures) (simp (to_z-of_z c.ranges.z) at c.unsigned_abs.ensures.value) c.decimal_length.ensures in
    let l = ranged c.args.z _ c.requires e in
    record { fits = omega (arith, l.most) }

pub returns : goal.returns
returns c =
    ranged c.args.z _ c.requires
    (signed_length c.args.z _ _ _ (simp (to_z-of_z c.ranges.z) at c.from.ensures) (simp (to_z-of_z c.ranges.z) at c.unsigned_abs.ensures.value) c.decimal_length.ensures)
