-- `text::scan_rest` meets its contract. The invariant: the sum, with the pass over the front from i on begun with this gap, is the size of the
-- whole front: at the start by the run of characters and spaces that was walked. At a refused byte, at the stop and at the end the front from i on is empty, and the sum is all. Of the other bytes a space (class 3,
-- and 3 / 3 = 1) adds nothing and sets the gap, a character adds its width and the gap, at most 5, and clears it. The measure is what is left
-- of the length.
use Rattle.text.proofs.Scanning.{Summing}
use Rattle.text.proofs.scan_rest.Given as goal

abbrev pub invariant-loop-i : goal.invariant-loop-i
invariant-loop-i l = Summing l.stop l.text l.from l.sum l.gap l.i
