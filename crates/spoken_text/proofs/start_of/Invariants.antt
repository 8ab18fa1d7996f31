-- `spoken_text::start_of` meets its contract. The loop's invariant: so many lines are passed, and the next one starts at the place.
use Prim.Native.Nat.{◌-◌}
use Rattle.spoken_text.specs.inner.Places.{LinesPassed}
use Rattle.spoken_text.proofs.start_of.Given as goal

abbrev pub invariant-loop : goal.invariant-loop
invariant-loop l = LinesPassed l.sheet l.at (l.counter - 1)
