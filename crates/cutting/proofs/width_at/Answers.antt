-- `cutting::width_at` meets its contract. A share no more than the level above its least stays; else the level is added, and one more where the
-- place is below the bound.
use native.Mathlib.Omega.{arith}
use Rattle.cutting.specs.inner.Fill.{place}
use Rattle.cutting.proofs.Fill.{width_share, width_first, width_later}
use Rattle.cutting.proofs.width_at.Goals as goal

pub returns-then-share-least : goal.returns-then-share-least
returns-then-share-least c =
    let a = c.args in
    width_share a.least a.share a.level (place a.least a.i) a.bound (omega arith) (omega arith)

pub returns-then-place_of-bound : goal.returns-then-place_of-bound
returns-then-place_of-bound c =
    let a = c.args in
    omega (arith, width_first a.least a.share a.level (place a.least a.i) a.bound (omega (arith, c.place_of.ensures)))

pub returns : goal.returns
returns c =
    let a = c.args in
    omega (arith, width_later a.least a.share a.level (place a.least a.i) a.bound (omega (arith, c.place_of.ensures)))
