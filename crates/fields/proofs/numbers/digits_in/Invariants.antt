-- `fields::numbers::digits_in` meets its contract. The invariant: the value is at most the most, and what is read from the place reached, after that
-- value, is what is read from the start. Each way out of a turn, and the turn itself, is a law on the bytes from the place on.
use mathlib.Core.Path.{◌≡◌}
use Prim.Native.Nat.{◌≤◌}
use lib.ListN.{drop}
use Rattle.fields.specs.inner.Reading.{digits_in}
use Rattle.fields.proofs.numbers.digits_in.Given as goal

abbrev pub invariant-loop-b : goal.invariant-loop-b
invariant-loop-b l = (l.value ≤ l.most) × (digits_in l.most 0 l.field ≡ digits_in l.most l.value (drop l.b-index l.field))
