-- `spoken_text::text_part` meets its contract: the line that starts at the place is sound, and its text lies between two places that reading it tells.
use mathlib.Core.Path.{◌≡◌, sym, ◌∙◌}
use Rattle.std.specs.Prelude.{Some}
use Rattle.std.specs.Result.{result_ok}
use Rattle.line.specs.inner.LineAt.{line_at}
use Rattle.spoken_text.proofs.Lines.{accepted_reading}
use Rattle.spoken_text.proofs.Parts.{never_none, starts_inside, told_part}
use Rattle.spoken_text.proofs.text_part.Goals as goal
use Rattle.spoken_text.proofs.text_part.Goals.{In_ok-node}

told : (c : In_ok-node) → result_ok (line_at c.args.sheet.now c.start_of-at.result) ≡ Some c.in_ok-node.node
told c = rw (← c.line_at.ensures) (sym c.ok.ensures.value ∙ c.in_ok-node.was)

pub line_at-requires-clause-bytes_len_bound : goal.line_at-requires-clause-bytes_len_bound
line_at-requires-clause-bytes_len_bound c = (accepted_reading _ c.requires.accepted).begins.short

pub line_at-requires-clause-at_in_bounds : goal.line_at-requires-clause-at_in_bounds
line_at-requires-clause-at_in_bounds c = starts_inside c.requires c.start_of-at.ensures

pub returns-in_err-node : goal.returns-in_err-node
returns-in_err-node c = absurd (never_none c.requires c.start_of-at.ensures (rw (← c.line_at.ensures) (sym c.ok.ensures.value ∙ c.in_err-node.was)))

pub part_between-requires-clause-from_le_to : goal.part_between-requires-clause-from_le_to
part_between-requires-clause-from_le_to c = (told_part c.requires c.start_of-at.ensures (told (goal.at.part_between-requires-clause-from_le_to c).In_ok-node)).0

pub part_between-requires-clause-to_bound : goal.part_between-requires-clause-to_bound
part_between-requires-clause-to_bound c = (told_part c.requires c.start_of-at.ensures (told (goal.at.part_between-requires-clause-to_bound c).In_ok-node)).1

pub returns : goal.returns
returns c = c.part_between.ensures ∙ (told_part c.requires c.start_of-at.ensures (told (goal.at.returns c).In_ok-node)).2
