-- `due` meets its contract: by cases on whether a hanging one is left and whether a cell is left, as the definition goes.
use mathlib.Core.Path.{sym, ap, ◌∙◌}
use mathlib.Core.Bool.{Bool, ◌||◌}
use lib.Dec.{leb}
use lib.ListN.{get_or}
use borrow.Author.Tests.{le-ltb}
use Rattle.grid_row.proofs.Steps.{due_none, due_some}
use Rattle.grid_row.proofs.due.Goals as goal

pub returns-then-last : goal.returns-then-last
returns-then-last c =
    let a = c.args in
    c.if-last.true ∙ sym (due_some _ _ _ _ c.if-h-at.true ∙ ap (λ (b : Bool). b || leb (get_or a.at.now a.h 0) a.pos) c.if-last.true)

pub returns-else-last : goal.returns-else-last
returns-else-last c =
    let a = c.args in
    sym (due_some _ _ _ _ c.if-h-at.true ∙ ap (λ (b : Bool). b || leb (get_or a.at.now a.h 0) a.pos) c.if-last.false)

pub returns-else-h-at : goal.returns-else-h-at
returns-else-h-at c = le-ltb _ _ c.if-h-at.false ∙ sym (due_none _ _ _ _ c.if-h-at.false)
