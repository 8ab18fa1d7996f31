-- `cutting::fill_widths` meets its contract. The loop's invariant: the first i places have their widths, and the rest stands as it did. A turn reads
-- the share of column i, which still stands there, and writes the width.
use Rattle.cutting.proofs.Fill.{Writing}
use Rattle.cutting.proofs.fill_widths.Given as goal

abbrev pub invariant-loop-i : goal.invariant-loop-i
invariant-loop-i l = Writing l.leasts l.initial.wide l.level l.bound l.wide l.i
