-- `text::plain_run` meets its contract. The invariant (`Running`): what was walked holds characters and spaces alone, and the sum and the gap are theirs. The loop goes on
-- only after eight of them; the measure is what is left of the length.
use native.Mathlib.Omega.{arith}
use Rattle.text.proofs.Runs.{run_start, run_small, run_turn, run_end}
use Rattle.text.proofs.plain_run.Goals as goal

pub loop-i-init : goal.loop-i-init
loop-i-init c = run_start _ _ c.requires.from_in_bounds

pub overflow_add-sum : goal.overflow_add-sum
overflow_add-sum c = omega (arith, run_small c.loop-i.invariant, c.plain_at-p.ensures.small, c.requires.text_len_bound)

pub returns-then-p-lt8 : goal.returns-then-p-lt8
returns-then-p-lt8 c = run_end (run_turn c.loop-i.invariant _ c.plain_at-p.ensures)

pub loop-i-preserved : goal.loop-i-preserved
loop-i-preserved c = run_turn c.loop-i.invariant _ c.plain_at-p.ensures
