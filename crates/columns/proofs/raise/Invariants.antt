-- `columns::raise` meets its contract. The loop's invariant: of the part as it was, the places passed are mapped, and the rest stands as it did.
use mathlib.Core.Path.{◌≡◌}
use mathlib.Core.List.{◌++◌, map}
use Prim.Native.Nat.{ℕ, max}
use lib.ListN.{take, drop}
use Rattle.columns.proofs.raise.Given as goal

abbrev pub invariant-loop-x : goal.invariant-loop-x
invariant-loop-x l = l.part ≡ take l.x-index (map (λ (x : ℕ). max x l.value) l.initial.part) ++ drop l.x-index l.initial.part
