-- `window::write_lines` meets its contract. The loop's invariant, `LinesWritten`: so many lines are written.
use Rattle.window.proofs.Lines.{LinesWritten}
use Rattle.window.proofs.write_lines.Given as goal

abbrev pub invariant-loop-i : goal.invariant-loop-i
invariant-loop-i l =
    LinesWritten l.t.entries.now l.t.sizes.now l.t.leasts.now l.raw l.widths l.fn.way l.fn.wide l.fn.missing l.way l.wide l.missing l.i
