-- `line::unreadable` meets its contract: the kind decides first; then the line feed is there where the search for one finds it.
use mathlib.Core.Path.{sym, ◌∙◌}
use Rattle.line.specs.inner.Reading.{refused_at}
use Rattle.line.proofs.Pieces.{fed_found}
use Rattle.line.proofs.unreadable.Goals as goal
use Rattle.line.proofs.unreadable.Goals.{else-has_text-via-then-has_text+else-contains, else-has_text-via-else-has_text}

pub returns-then-contains : goal.returns-then-contains
unfolding refused_at
returns-then-contains c =
    rw (sym c.has_text.ensures ∙ c.if-has_text.true, sym (fed_found c.args.bytes.now c.args.at) ∙ sym c.contains.ensures.value ∙ c.if-contains.true)

pub returns-else-has_text : goal.returns-else-has_text
unfolding refused_at
returns-else-has_text c =
    elim c.else-has_text.branch [
      | else-has_text-via-then-has_text+else-contains w ↦
          rw (sym c.has_text.ensures ∙ w.if-has_text.true, sym (fed_found c.args.bytes.now c.args.at) ∙ sym w.contains.ensures.value ∙ w.if-contains.false)
      | else-has_text-via-else-has_text w ↦ rw (sym c.has_text.ensures ∙ w.if-has_text.false)
    ]
