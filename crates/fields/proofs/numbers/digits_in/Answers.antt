-- `fields::numbers::digits_in` meets its contract: each way out of a turn, and the turn itself, is a law on the bytes from the place on.
use mathlib.Core.Path.{sym, ap, ◌∙◌}
use Prim.Native.Nat.{ℕ, ◌+◌, ◌*◌}
use native.Mathlib.Omega.{arith}
use lib.ListN.{drop}
use Rattle.fields.specs.inner.Reading.{digits_in}
use Rattle.fields.proofs.Written.{digits_end, digits_other, digits_past, digits_more}
use Rattle.fields.proofs.numbers.digits_in.Goals as goal

pub returns-then-not-is_ascii_digit : goal.returns-then-not-is_ascii_digit
returns-then-not-is_ascii_digit c =
    let l = c.loop-b in
    sym
    (l.invariant.1
    ∙ digits_other _ l.value l.b-index _ c.loop-b-test.true (sym c.is_ascii_digit.ensures.value ∙ c.if-not-is_ascii_digit.true))

pub returns-then-value-from : goal.returns-then-value-from
returns-then-value-from c =
    let l = c.loop-b in
    sym
    (l.invariant.1
    ∙ digits_past _ l.value l.b-index _ c.loop-b-test.true (sym c.is_ascii_digit.ensures.value ∙ c.if-not-is_ascii_digit.false) (omega arith))

pub loop-b-preserved : goal.loop-b-preserved
loop-b-preserved c =
    let l = c.loop-b in
    let a = c.args in (
      omega arith,
      l.invariant.1
          ∙ digits_more _ l.value l.b-index _ c.loop-b-test.true (sym c.is_ascii_digit.ensures.value ∙ c.if-not-is_ascii_digit.false) (omega arith)
          ∙ ap (λ (d : ℕ). digits_in a.most (l.value * 10 + d) (drop (l.b-index + 1) a.field.now)) (sym c.from.ensures),
    )

pub returns : goal.returns
returns c = let l = c.loop-b in sym (l.invariant.1 ∙ digits_end _ l.value l.b-index _ c.loop-b-test.false)
