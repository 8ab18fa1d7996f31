-- `row_lookup::starts::row_in` meets its contract: a table that goes down, or has no such row, is refused; else the three numbers are where rows start.
use mathlib.Core.Path.{sym, ◌∙◌}
use native.Mathlib.Omega.{arith}
use Rattle.row_lookup.proofs.RowStarts.{row_total, spot_down, spot_past, spot_there}
use Rattle.row_lookup.proofs.starts.row_in.Goals as goal
use Rattle.row_lookup.proofs.starts.row_in.Goals.{then-is_down-via-then-is_down, then-is_down-via-else-is_down+then-rows-k}

pub returns-then-is_down : goal.returns-then-is_down
returns-then-is_down c = λ g e. rw c.at.ensures
    (elim c.then-is_down.branch [
      | then-is_down-via-then-is_down w ↦ spot_down c.args.way g c.args.row (sym c.is_down.ensures ∙ w.if-is_down.true)
      | then-is_down-via-else-is_down+then-rows-k w ↦
          spot_past c.args.way g c.args.row (sym c.is_down.ensures ∙ w.if-is_down.false) (omega (arith, row_total c.args.rows.now g e, w.if-rows-k.true))
    ])

pub returns : goal.returns
returns c = λ g e. spot_there c.args.way g c.args.row (sym c.is_down.ensures ∙ c.if-is_down.false) (omega (arith, row_total c.args.rows.now g e, c.if-rows-k.false)) (c.entries_before-first.ensures g e) (c.entries_before-end.ensures g e) (c.entries_before-next.ensures g e)
