-- `sheet::line_of` meets its contract: a line is told by its comparisons, or read, and then kept as its kind has it.
use mathlib.Core.Path.{sym, ◌∙◌}
use Rattle.line.proofs.Told.{good_line}
use Rattle.sheet.proofs.Briefs.{sound_answers}
use Rattle.sheet.proofs.line_of.Goals as goal

pub returns-in-Some : goal.returns-in-Some
returns-in-Some c =
    let w = c.common_line.ensures c.in-Some.b c.in-Some.is in
    sound_answers c.in-Some.b w.node w.read w.brief

pub brief-requires : goal.brief-requires
brief-requires c =
    let g = good_line _ _ _ (sym c.line_from.ensures ∙ c.in_ok-node.was) in
    record { deep = g.deep; wide = g.wide; high = g.high }
