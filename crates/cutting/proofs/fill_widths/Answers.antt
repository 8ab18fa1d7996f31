-- `cutting::fill_widths` meets its contract. The loop's invariant: the first i places have their widths, and the rest stands as it did. A turn reads
-- the share of column i, which still stands there, and writes the width.
use native.Mathlib.Omega.{arith}
use Rattle.cutting.proofs.Fill.{writing_turn, writing_end}
use Rattle.cutting.proofs.fill_widths.Goals as goal

pub loop-i-preserved : goal.loop-i-preserved
loop-i-preserved c =
    let l = c.loop-i in
    writing_turn c.args.leasts.now c.args.wide.now c.args.level c.args.bound c.requires.below.0 l.invariant (omega arith)
    c.width_at.ensures

pub returns : goal.returns
returns c =
    let l = c.loop-i in
    writing_end c.args.leasts.now c.args.wide.now c.args.level c.args.bound c.requires.below.0 l.invariant (omega arith)
