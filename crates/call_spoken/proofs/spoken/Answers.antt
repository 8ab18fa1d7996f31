-- `call_spoken::spoken` meets its contract: a part of the sheet lies in it, and the verdict is that of the checks.
use mathlib.Core.Path.{ap, ◌∙◌}
use Rattle.std.specs.Prelude.{◌≡◌}
use Rattle.std.proofs.Common.{rules}
use Rattle.call_spoken.specs.Spoken.{place_of, reply}
use Rattle.call_spoken.specs.inner.Found.{verdict_at}
use Rattle.call_spoken.proofs.Places.{place_inside, verdict_judged, whole_text}
use Rattle.call_spoken.proofs.spoken.Goals as goal
use Rattle.call_spoken.proofs.spoken.Goals.{After-reply}

pub reply-requires : goal.reply-requires
reply-requires c = rw c.spoken_place-place.ensures (place_inside c.args.sheet.now c.args.line c.args.entry)

-- what is returned
text : (c : After-reply) → c.reply.result.now ≡ reply c.args.sheet.now c.args.wording.now (place_of c.args.sheet.now c.args.line c.args.entry)
text c = c.reply.ensures ∙ ap (reply c.args.sheet.now c.args.wording.now) c.spoken_place-place.ensures

-- the verdict, by the cases of the place
told : (c : After-reply) → c.map.result ≡ verdict_at c.spoken_place-place.result
unfolding verdict_at
told c = search rules

pub returns-clause-answer : goal.returns-clause-answer
returns-clause-answer c = record {
  text = text c;
  verdict_is = told c ∙ ap verdict_at c.spoken_place-place.ensures ∙ verdict_judged c.args.sheet.now c.args.line c.args.entry;
}

pub returns-clause-whole : goal.returns-clause-whole
returns-clause-whole c = whole_text c.args.sheet.now c.args.line c.args.entry c.args.wording.now (text c)
