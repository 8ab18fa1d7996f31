-- `text::decimal::written` meets its contract: each side of the base is the definition's. A 32-bit number has at most
-- 10 digits, so that the sign is no overflow.
use mathlib.Core.Path.{◌≡◌, refl, ap, ◌∙◌}
use mathlib.Core.Bool.{Bool, true, false}
use mir.Val.{bool_byte}
use Prim.Native.Nat.{◌+◌}
use native.Mathlib.Omega.{arith}
use lib.Dec.{ltb}
use borrow.Author.Tests.{ltb-true, ltb-false}
use Rattle.text.specs.inner.Steps.{writing_from}
use Rattle.text.proofs.Prefixes.{from_above, from_below, from_le}
use Rattle.text.proofs.decimal.written.Goals as goal
use Rattle.text.proofs.decimal.written.Goals.{After-from-2}

-- below the base the sign is 1, and else 0
both : (c : After-from-2) → c.decimal_length.result + c.from-2.result ≡ writing_from c.args.base c.args.v
both c = go (ltb c.args.v c.args.base) refl
  where
    go : (b : Bool) → ltb c.args.v c.args.base ≡ b → c.decimal_length.result + c.from-2.result ≡ writing_from c.args.base c.args.v
    go true e =
        let less = ltb-true _ _ e in
        let below = from_below c.args.base c.args.v c.from.result (omega (arith, c.from.ensures, c.abs_diff.ensures)) (omega (arith, c.from.ensures, c.abs_diff.ensures)) in
        omega (arith, below, c.decimal_length.ensures, c.from-2.ensures ∙ ap bool_byte e)
    go false e =
        let most = ltb-false _ _ e in
        let above = from_above c.args.base c.args.v c.from.result (omega (arith, c.from.ensures, c.abs_diff.ensures)) in
        omega (arith, above, c.decimal_length.ensures, c.from-2.ensures ∙ ap bool_byte e)

pub overflow_add-result : goal.overflow_add-result
overflow_add-result c = omega (arith, both c, from_le c.args.base c.args.v (omega arith) (omega arith))

pub returns : goal.returns
returns c = both c
