-- `resolved_rows::cell_at` meets its contract.
use Rattle.resolved_rows.proofs.Figures.{three_read}
use borrow.Author.Rules.{rules}
use Rattle.resolved_rows.proofs.cell_at.Goals as goal

pub returns : goal.returns
returns c = three_read (λ l s r. record { line = l; span = s; rows = r }) _ _ (search rules)
