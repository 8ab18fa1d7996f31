-- `sheet_load::is_table` meets its contract: line 0 and a line past the last are no tables, and the kind of any other is in its record.
use Rattle.std.proofs.Common.{arith}
use Rattle.std.proofs.lemmas.Grind.{common_steps}
use Rattle.sheet_load.proofs.Answers.{no_line, past_lines, at_line}
use Rattle.sheet_load.proofs.is_table.Goals as goal

pub returns : goal.returns
returns c =
    let ks = c.args.lines.now in
    let line = c.args.line in
    grind (arith, common_steps, no_line ks line, past_lines ks line, at_line ks line)
