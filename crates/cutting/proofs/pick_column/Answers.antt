-- `cutting::pick_column` meets its contract: the chain gives the columns, and of each and the best so far the fold keeps the better one.
use mathlib.Core.Path.{ap, ◌∙◌}
use borrow.Author.Rules.{rules}
use Rattle.std.proofs.lemmas.Iterator.Consumers.{fold_from_yields_List}
use Rattle.cutting.proofs.Columns.{columns_come, may_ask}
use Rattle.cutting.proofs.Picked.{better, scan_all}
use Rattle.cutting.proofs.pick_column.Goals as goal

pub fold-best-requires-clause-callable : goal.fold-best-requires-clause-callable
fold-best-requires-clause-callable c =
    let ask = may_ask c.enumerate.result c.args.leasts.now c.args.wide.now (cc) (cc) (cc) c.requires in
    record { at = λ xs t q x u so_far folds next. let asked = ask xs t u x so_far next in search (rules, asked) }

pub returns : goal.returns
returns c =
    let ls = c.args.leasts.now in
    let ws = c.args.wide.now in
    ap (λ a. a.0)
    (fold_from_yields_List _ better _ _ c.fold-best.ensures.ran (columns_come c.enumerate.result ls ws (cc) (cc) (cc)) (λ a x r q called. search rules))
    ∙ scan_all ls ws c.requires.0
