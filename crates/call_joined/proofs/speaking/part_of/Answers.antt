-- `call_joined::speaking::part_of` meets its contract: nothing stands inside line 0.
use Rattle.spoken_text.specs.Text.{part_for}
use Rattle.call_joined.proofs.Replies.{none_inside}
use Rattle.call_joined.proofs.speaking.part_of.Goals as goal

pub returns-then-owner-eq0 : goal.returns-then-owner-eq0
unfolding part_for
returns-then-owner-eq0 c = rw (c.if-owner-eq0.true, none_inside c.args.lines.now)
