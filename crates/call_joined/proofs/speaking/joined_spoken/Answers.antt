-- `call_joined::speaking::joined_spoken` meets its contract: a part of the sheet lies in it, and the verdict is that of the checks.
use mathlib.Core.Path.{ap, ◌∙◌}
use Rattle.std.specs.Prelude.{◌≡◌}
use Rattle.std.proofs.Common.{rules}
use Rattle.call_spoken.specs.Spoken.{reply}
use Rattle.call_spoken.specs.inner.Found.{verdict_at}
use Rattle.call_joined.proofs.Replies.{place_inside, verdict_judged}
use Rattle.call_joined.proofs.speaking.joined_spoken.Goals as goal
use Rattle.call_joined.proofs.speaking.joined_spoken.Goals.{After-reply}

pub reply-requires : goal.reply-requires
reply-requires c = rw c.joined_place-place.ensures (place_inside c.args.sheet.now c.args.left c.args.right c.args.entry)

-- the verdict, by the cases of the place
told : (c : After-reply) → c.map.result ≡ verdict_at c.joined_place-place.result
unfolding verdict_at
told c = search rules

pub returns : goal.returns
returns c = record {
  text_is = c.reply.ensures ∙ ap (reply c.args.sheet.now c.args.wording.now) c.joined_place-place.ensures;
  verdict_is = told c ∙ ap verdict_at c.joined_place-place.ensures ∙ verdict_judged c.args.sheet.now c.args.left c.args.right c.args.entry;
}
