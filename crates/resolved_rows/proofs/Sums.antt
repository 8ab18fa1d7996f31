-- A row's sum, from its cols alone, and how large it is.
use mathlib.Core.Path.{◌≡◌, refl, ap}
use mathlib.Core.List.{List, [], ◌∷◌, map}
use Prim.Native.Nat.{ℕ, suc, ◌+◌, ◌*◌, ◌≤◌, max}
use native.Mathlib.Omega.{arith}
use lib.ListN.{length, get_or}
use Rattle.common.specs.Limits.{max_cols}
use Rattle.common.specs.Lists.{sum}
use Rattle.resolved_rows.specs.Cells.{Cell, row_sum}
use Rattle.resolved_rows.specs.inner.Listed.{cell_cols}
use Rattle.resolved_rows.specs.inner.Spans.{bare}

-- a row's sum hangs on its cells' cols alone
pub sum_bare : (cs : List Cell) → row_sum (bare (map cell_cols cs)) ≡ row_sum cs
unfolding row_sum sum
sum_bare [] = refl
sum_bare (c ∷ cs) = ap (λ (s : ℕ). max c.cols 1 + s) (sum_bare cs)

pub sum_small : (spans : List ℕ) → ((k : ℕ) → get_or spans k 0 ≤ max_cols) → row_sum (bare spans) ≤ length spans * max_cols
unfolding row_sum sum
sum_small [] h = omega arith
sum_small (s ∷ spans) h = omega (arith, h 0, sum_small spans (λ k. h (suc k)))
