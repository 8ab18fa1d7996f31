-- `cutting::Tight::total_at` meets its contract: the chain gives the columns, and of each its width may be asked.
use mathlib.Core.Path.{refl, sym, ap, ◌∙◌}
use borrow.Author.Rules.{rules}
use Rattle.std.specs.List.{sum_by}
use Rattle.std.proofs.lemmas.Iterator.{YieldsList-from_map}
use Rattle.std.proofs.lemmas.Iterator.Consumers.{sum_from_yields_List}
use Rattle.std.proofs.lemmas.List.Recursion.{is_sum_by}
use Rattle.common.specs.Lists.{sum}
use Rattle.cutting.specs.inner.Fill.{place, width_at, filled}
use Rattle.cutting.proofs.Columns.{columns_come, widths_from, may_ask}
use Rattle.cutting.proofs.Tight.total_at.Goals as goal

pub sum-requires-clause-can : goal.sum-requires-clause-can
sum-requires-clause-can c =
    let tight = c.args.self.now in
    let ask = may_ask c.map.result.iter tight.leasts.now tight.shares.now (cc) (cc) (cc) tight.holds_leasts.above in
    (search rules, record { at = λ xs t q x u so_far folds next. let asked = ask xs t u x so_far next in search (rules, asked, tight.holds_leasts.few) })

pub returns : goal.returns
unfolding sum
returns c =
    let tight = c.args.self.now in
    let ls = tight.leasts.now in
    let ss = tight.shares.now in
    sum_from_yields_List c.map.result _ c.sum.ensures.ran
    (YieldsList-from_map _ (λ x. width_at x.1.1 x.1.0 c.args.level (place x.1.1 x.0) c.args.bound)
    (columns_come c.map.result.iter ls ss (cc) (cc) (cc)) c.map.ensures.closure (λ x r q called. search rules))
    ∙ ap (sum_by (λ x. x)) (widths_from 0 ls ss c.args.level c.args.bound tight.holds_leasts.above.0)
    ∙ sym (is_sum_by sum (λ x. x) refl (λ _ _. refl) (filled ls ss c.args.level c.args.bound))
