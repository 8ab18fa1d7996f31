-- `spoken_text::first_text` meets its contract: the search stops at the first line that is a text or no deeper, and if it finds none, no text stands inside.
use mathlib.Core.Path.{refl, sym, ◌∙◌}
use borrow.Author.Tests.{le-leb, lt-leb}
use Rattle.std.proofs.lemmas.List.{take_rest}
use Rattle.spoken_text.proofs.Inside.{inside_none, inside_some}
use Rattle.spoken_text.proofs.first_text.Goals as goal

pub returns-in_err-k : goal.returns-in_err-k
returns-in_err-k c =
    let ks = c.args.lines.now in
    c.from_residual.ensures ∙ inside_none ks c.args.c refl (take_rest ks c.args.c) (sym c.text_or_end.ensures ∙ c.in_err-k.was)

pub returns-then-inner-k : goal.returns-then-inner-k
returns-then-inner-k c =
    let ks = c.args.lines.now in
    rw (le-leb _ _ c.if-inner-k.true) at (inside_some ks c.args.c refl (take_rest ks c.args.c) c.in_ok-k.k (sym c.text_or_end.ensures ∙ c.in_ok-k.was))

pub returns : goal.returns
returns c =
    let ks = c.args.lines.now in
    rw (lt-leb _ _ c.if-inner-k.false) at (inside_some ks c.args.c refl (take_rest ks c.args.c) c.in_ok-k.k (sym c.text_or_end.ensures ∙ c.in_ok-k.was))
