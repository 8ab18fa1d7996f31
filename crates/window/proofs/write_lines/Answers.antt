-- `window::write_lines` meets its contract: a turn writes a line.
use native.Mathlib.Omega.{arith}
use Rattle.window.proofs.Lines.{lines_more}
use Rattle.window.proofs.write_lines.Goals as goal

pub loop-i-preserved : goal.loop-i-preserved
loop-i-preserved c = lines_more c.requires.lines c.loop-i.invariant (omega (arith, c.loop-i-test.true)) c.at_width-line.ensures c.number.ensures
