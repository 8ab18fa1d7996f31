-- `widths::exceeds` meets its contract. The two sides compared are the width and the sum with its gaps; the sum is small enough for the
-- addition to fit.
use mathlib.Core.Path.{ap₂}
use Prim.Native.Nat.{ℕ, ◌+◌}
use native.Mathlib.Omega.{arith}
use lib.Dec.{ltb}
use Rattle.widths.proofs.exceeds.Goals as goal

pub overflow_add-result : goal.overflow_add-result
overflow_add-result c = omega arith

pub returns : goal.returns
returns c = ap₂ ltb c.from.ensures (ap₂ (λ (x y : ℕ). x + y) c.total.ensures.is c.gaps_of.ensures)
