-- `window::missing_in` meets its contract: where all columns are not 0 wide no entry is missing, and else the counts tell which are.
use mathlib.Core.Path.{◌∙◌}
use Rattle.window.proofs.Missing.{none_missing, missing_counted}
use Rattle.window.proofs.missing_in.Goals as goal

pub returns-then-before-column : goal.returns-then-before-column
returns-then-before-column c = none_missing c.requires c.count_before.ensures c.if-before-column.true

pub returns : goal.returns
returns c = c.count_missing.ensures ∙ missing_counted c.requires c.count_before.ensures
