-- `widths::count_nonzero` meets its contract: at the end all columns are passed, and std's count is the definition's.
use mathlib.Core.Path.{sym, ap, ◌∙◌}
use mathlib.Core.Bool.{not}
use native.Mathlib.Omega.{arith}
use lib.Dec.{eqb}
use lib.Seq.{take_all}
use Rattle.std.specs.List.{count_by}
use Rattle.widths.proofs.Whole.{nonzero_count}
use Rattle.widths.proofs.count_nonzero.Goals as goal

pub returns : goal.returns
returns c =
    let wide = c.args.wide.now in
    c.loop-w.invariant.1 ∙ ap (count_by (λ w. not (eqb w 0))) (take_all c.loop-w.w-index wide (omega arith)) ∙ sym (nonzero_count wide)
