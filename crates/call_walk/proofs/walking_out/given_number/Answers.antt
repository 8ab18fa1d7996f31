-- `call_walk::walking_out::given_number` meets its contract: the number, as the functions of `Option` say it.
use mathlib.Core.Path.{ap, ◌∙◌}
use mir.Val.{bool_byte}
use Rattle.call_walk.proofs.WalkCall.{given_is}
use Rattle.call_walk.proofs.walking_out.given_number.Goals as goal

pub returns : goal.returns
returns c = c.from.ensures ∙ ap bool_byte c.is_some.ensures ∙ given_is _
