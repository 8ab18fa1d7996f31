-- `swar::plain_at` meets its contract: where no byte is 128 or more, the front of the eight is told; else nothing is.
use mathlib.Core.Path.{refl, sym, ◌∙◌}
use native.Mathlib.Omega.{arith}
use lib.ListN.{take, drop, length-drop}
use Rattle.common.specs.Lists.{All}
use Rattle.swar.specs.inner.Digits.{Low}
use Rattle.swar.specs.inner.Plain.{plain_sum, plain_gap}
use Rattle.swar.proofs.Answers.{low_of, front_more}
use Rattle.swar.proofs.plain_at.Goals as goal
use Rattle.swar.proofs.plain_at.Goals.{Else-tops-ne0}

low : (c : Else-tops-ne0) → Low (take 8 (drop c.args.at c.args.bytes.now))
low c = let e = c.eight-w.ensures in low_of _ e.octets (sym (c.tops.ensures.digits _ e.octets e.is) ∙ c.if-tops-ne0.false)

pub returns-then-tops-ne0 : goal.returns-then-tops-ne0
unfolding All plain_sum plain_gap
returns-then-tops-ne0 c = record { inside = omega arith; few = omega arith; plain = tt; size = refl; last = refl; small = omega arith; one = c.requires.gap_bound }

pub returns : goal.returns
returns c =
    let a = c.args in
    front_more _ _ _ (c.plain_of.ensures _ (low (goal.at.returns c).Else-tops-ne0) c.eight-w.ensures.is) (omega (arith, length-drop a.at a.bytes.now, c.requires.at_in_bounds))
