-- `causes::none_shown` meets its contract: std's `all` by the test of each is the definition.
use mathlib.Core.Path.{refl}
use mathlib.Core.Bool.{not}
use lib.Dec.{eqb}
use Rattle.std.proofs.Common.{rules}
use Rattle.std.proofs.lemmas.List.Recursion.{and_is}
use Rattle.causes.specs.inner.Hidden.{none_shown}
use Rattle.causes.proofs.Listing.{none_shown_more}
use Rattle.causes.proofs.none_shown.Goals as goal

pub returns : goal.returns
unfolding none_shown
returns c = and_is none_shown (λ x. not (eqb x 0)) refl none_shown_more c.args.cause.now 0 _ (search rules) (search rules)
