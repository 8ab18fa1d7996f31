-- `spoken_text::start_of` meets its contract. The loop's invariant: so many lines are passed, and the next one starts at the place.
use mathlib.Core.Path.{◌≡◌}
use Prim.Native.Nat.{◌+◌, ◌-◌}
use native.Mathlib.Omega.{arith}
use Rattle.spoken_text.specs.inner.Places.{end_of, LinesPassed}
use Rattle.spoken_text.proofs.Lines.{accepted_reading, passed_start, passed_more}
use Rattle.spoken_text.proofs.start_of.Goals as goal
use Rattle.spoken_text.proofs.start_of.Goals.{After-end_of-at}

-- one more is passed
more : (c : After-end_of-at) → LinesPassed c.args.sheet.now (end_of c.args.sheet.now c.loop.at + 1) (c.loop.counter - 1 + 1)
more c = passed_more c.requires.accepted c.loop.invariant (omega (arith, c.loop-test.true, c.loop.auto.counter, c.requires.within))

pub loop-init : goal.loop-init
loop-init c = passed_start c.requires.accepted

pub end_of-at-requires : goal.end_of-at-requires
end_of-at-requires c = c.loop.invariant.within

pub overflow_add-at : goal.overflow_add-at
overflow_add-at c = omega (arith, (more c).within, (accepted_reading _ c.requires.accepted).begins.short, c.end_of-at.ensures)

pub loop-preserved : goal.loop-preserved
loop-preserved c =
    let n : c.loop.counter + 1 - 1 ≡ c.loop.counter - 1 + 1 = omega (arith, c.loop.auto.counter) in
    rw (n, c.end_of-at.ensures) (more c)

pub returns : goal.returns
returns c =
    let n : c.args.k ≡ c.loop.counter = omega (arith, c.loop-test.false, c.loop.auto.counter-end, c.requires.from_one) in
    rw n c.loop.invariant
