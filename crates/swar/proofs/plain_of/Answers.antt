-- `swar::plain_of` meets its contract: the digits of each answer follow from those of the bytes, and tell the front.
use mathlib.Core.Path.{sym, ◌∙◌}
use mathlib.Core.List.{map}
use native.Mathlib.Omega.{arith}
use Rattle.swar.specs.inner.Digits.{char, odd, after_from, adds_of}
use Rattle.swar.proofs.Fronts.{chars_small, odd_small, after_small, bits_octets, adds_octets, front_cut, front_all}
use Rattle.swar.proofs.plain_of.Goals as goal

pub returns-then-odd-ne0 : goal.returns-then-odd-ne0
returns-then-odd-ne0 c ds w e =
    let gap = c.args.gap in
    let one = c.requires.gap_bound in
    let bits = chars_small ds w in
    let after-bits = after_small gap (map char ds) one bits in
    let chars = c.chars_of-chars.ensures.digits ds w e in
    let odds = c.odd_of-odd.ensures.digits ds w e in
    let after = c.after_of-after.ensures (map char ds) bits chars in
    let adds = c.adds_of-adds.ensures (map char ds) (after_from gap (map char ds)) bits after-bits chars after in
    front_cut ds w gap one c.cut.result (omega (arith, odds, c.if-odd-ne0.true))
    (c.cut.ensures (map odd ds) (adds_of (map char ds) (after_from gap (map char ds))) (after_from gap (map char ds)) (odd_small ds w) (adds_octets _ _ bits after-bits) (bits_octets _ after-bits) odds adds after)

pub returns : goal.returns
returns c ds w e =
    let gap = c.args.gap in
    let one = c.requires.gap_bound in
    let bits = chars_small ds w in
    let after-bits = after_small gap (map char ds) one bits in
    let chars = c.chars_of-chars.ensures.digits ds w e in
    let odds = c.odd_of-odd.ensures.digits ds w e in
    let after = c.after_of-after.ensures (map char ds) bits chars in
    let adds = c.adds_of-adds.ensures (map char ds) (after_from gap (map char ds)) bits after-bits chars after in
    front_all ds w gap one _ _ (sym odds ∙ c.if-odd-ne0.false) adds chars
