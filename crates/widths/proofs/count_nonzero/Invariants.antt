-- `widths::count_nonzero` meets its contract. The loop's invariant: the count is std's of the columns passed.
use mathlib.Core.Path.{◌≡◌}
use mathlib.Core.Bool.{not}
use Prim.Native.Nat.{◌≤◌}
use lib.Dec.{eqb}
use lib.ListN.{take}
use Rattle.std.specs.List.{count_by}
use Rattle.widths.proofs.count_nonzero.Given as goal

abbrev pub invariant-loop-w : goal.invariant-loop-w
invariant-loop-w l = (l.n ≤ l.w-index) × (l.n ≡ count_by (λ w. not (eqb w 0)) (take l.w-index l.wide))
