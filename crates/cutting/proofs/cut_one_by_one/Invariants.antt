-- `cutting::cut_one_by_one` meets its contract. The loop's invariant: cutting what stands there now ends where cutting the widths at the start ends,
-- and what is left of the sum is theirs. In a turn one is taken from the column picked, which is one step of the cutting; after the turns the
-- cutting is over.
use Prim.Native.Nat.{◌+◌, ◌-◌}
use Rattle.cutting.proofs.LoopFacts.{LoopFacts}
use Rattle.cutting.proofs.cut_one_by_one.Given as goal

abbrev pub invariant-loop : goal.invariant-loop
invariant-loop l = LoopFacts l.leasts l.initial.wide l.capacity l.wide (l.capacity + l.all - l.counter)
