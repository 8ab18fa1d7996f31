-- `arguments::out_of_range` meets its contract where wrap and raw are within theirs: the widths are searched as the definition says.
use Rattle.std.proofs.Common.{rules, ◌≡◌}
use mathlib.Core.Path.{◌∙◌}
use Rattle.common.specs.Limits.{max_width}
use Rattle.arguments.specs.Arguments.{any_above}
use Rattle.arguments.proofs.Above.{found_above}
use Rattle.arguments.proofs.out_of_range.Goals as goal

pub returns-else-raw-gt1 : goal.returns-else-raw-gt1
returns-else-raw-gt1 c =
    let e : c.any_above.result ≡ any_above max_width c.args.widths.now = c.any_above.ensures ∙ found_above _ _ in
    search rules
