-- `text::scan` meets its contract: a front that is shorter than the text ends at a refused byte, since the stop is one too; else the front is
-- the text (`scanned`).
use mathlib.Core.Path.{◌≡◌, refl, ◌∙◌}
use Rattle.text.specs.Bytes.{class_of, refused}
use Rattle.text.proofs.Sizes.{scanned}
use Rattle.text.proofs.scan.Goals as goal

stop-refused : class_of 255 ≡ refused
unfolding class_of
stop-refused = refl

pub returns : goal.returns
returns c = c.then_some.ensures ∙ scanned 255 stop-refused c.args.text.now c.scan_front-front.result c.scan_front-front.ensures
