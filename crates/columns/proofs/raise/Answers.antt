-- `columns::raise` meets its contract. A turn stores the larger of a place and the value: the map of that place.
use Prim.Native.Nat.{ℕ, max}
use native.Mathlib.Omega.{arith}
use Rattle.columns.proofs.Mapped.{mapped_turn}
use Rattle.columns.proofs.raise.Goals as goal

pub loop-x-preserved : goal.loop-x-preserved
loop-x-preserved c =
    let l = c.loop-x in
    mapped_turn (λ (x : ℕ). max x c.args.value) c.args.part.now l.part l.x-index l.invariant c.max.result (omega arith) c.max.ensures
