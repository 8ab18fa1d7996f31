-- `sheet::front::feeds_in` meets its contract: a byte counts 1 if it is a line feed.
use mathlib.Core.Path.{refl}
use borrow.Author.Rules.{rules}
use lib.Dec.{eqb}
use Rattle.std.specs.Prelude.{cond}
use Rattle.std.proofs.lemmas.List.Recursion.{is_sum_by}
use Rattle.fields.specs.Lines.{feed, feeds}
use Rattle.sheet.proofs.front.feeds_in.Goals as goal

pub returns : goal.returns
unfolding feeds
returns c =
    let counted = is_sum_by feeds (λ b. cond (eqb b feed) 1 0) refl (λ _ _. refl) c.args.block.now in
    search (rules, counted)
