-- `window::write_report` meets its contract: the columns that are raised can be laid out at each width, and the lines are the report.
use Rattle.std.proofs.Common.{rules}
use Rattle.window.proofs.Report.{table_known, reported}
use Rattle.window.proofs.write_report.Goals as goal

pub invariant_of-t : goal.invariant_of-t
invariant_of-t c = record { known = table_known c.requires (search rules) c.raise_columns.auto.sizes c.raise_columns.ensures }

pub returns : goal.returns
returns c = reported c.requires (search rules) c.raise_columns.ensures c.write_lines.ensures
