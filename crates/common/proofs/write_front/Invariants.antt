-- `common::write_front` meets its contract. The loop's invariant: the figures of the records passed stand in front, and what stands past all of them is
-- as it was.
use mathlib.Core.Path.{◌≡◌}
use mathlib.Core.List.{map}
use Prim.Native.Nat.{ℕ}
use lib.ListN.{length, take, drop}
use Rattle.std.specs.Fn.{FnReturnsAt}
use Rattle.common.proofs.write_front.Given as goal

abbrev pub invariant-loop-i : goal.invariant-loop-i
invariant-loop-i t l =
    ((f : t.row.T.Denot → ℕ) → ((x : t.row.T.Denot) (r : ℕ) → FnReturnsAt t.F.Fn l.figure x r → r ≡ f x) → take l.i l.buffer ≡ map f (take l.i l.records)) × (drop (length l.records) l.buffer ≡ drop (length l.records) l.initial.buffer)
