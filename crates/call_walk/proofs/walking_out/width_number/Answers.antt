-- `call_walk::walking_out::width_number` meets its contract: the number, as the functions of `Option` say it.
use mathlib.Core.Path.{◌∙◌}
use Rattle.call_walk.proofs.WalkCall.{width_is}
use Rattle.call_walk.proofs.walking_out.width_number.Goals as goal

pub returns : goal.returns
returns c = c.unwrap_or.ensures ∙ width_is _
