-- `resolved_rows::put_cell` meets its contract.
use mathlib.Core.Path.{refl}
use mathlib.Core.List.{[], ◌∷◌}
use Rattle.resolved_rows.specs.inner.Held.{cell_by}
use Rattle.records.proofs.Records.{of_set}
use borrow.Author.Rules.{rules}
use Rattle.resolved_rows.proofs.put_cell.Goals as goal

pub returns : goal.returns
returns c = of_set 3 cell_by c.args.cells.now c.args.i (c.args.c.line ∷ c.args.c.span ∷ c.args.c.rows ∷ []) refl (search rules)
