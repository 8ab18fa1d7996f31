-- `sheet::read_lines` meets its contract. The loop's invariant, `ReadingLoop`: the first n lines are kept and faultless, the chain tells what they
-- are to the next one, and the sheet's answer is that of the checks from line n + 1 on, which starts at the place. A faulty line is the answer; a
-- sound one is kept, and the checks go on after it; while none is seen to lack a child, none of those before the last does. After the last line only the checks of `finish` are left. The measure is what is left of the
-- sheet: a line has at least its line feed.
use mathlib.Core.Path.{◌≡◌}
use mathlib.Core.Bool.{true}
use Prim.Native.Nat.{◌-◌}
use lib.ListN.{length}
use Rattle.sheet.specs.inner.Steps.{FinishPre}
use Rattle.sheet.proofs.Turns.{ReadingLoop}
use Rattle.sheet.proofs.read_lines.Given as goal

abbrev pub invariant-loop-at : goal.invariant-loop-at
invariant-loop-at l =
    ReadingLoop l.bytes l.initial.lines l.lines l.chain l.previous l.at l.n
    × (l.filled ≡ true → FinishPre l.lines l.n)

abbrev pub decreases-loop-at : goal.decreases-loop-at
decreases-loop-at l = length l.bytes - l.at
