-- `window::count_missing` meets its contract. The loop's invariant: the count is std's of the entries passed.
use mathlib.Core.Path.{◌≡◌}
use Prim.Native.Nat.{◌≤◌}
use lib.ListN.{take}
use Rattle.window.specs.inner.Counting.{missing_by}
use Rattle.window.proofs.count_missing.Given as goal

abbrev pub invariant-loop-e : goal.invariant-loop-e
invariant-loop-e l = (l.n ≤ l.e-index) × (l.n ≡ missing_by l.before (take l.e-index l.entries))
