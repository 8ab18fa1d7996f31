-- `filler_owner` meets its contract where there is no such entry, and where it is no filler.
use mathlib.Core.Path.{sym, ap, ◌∙◌}
use native.Mathlib.Omega.{arith}
use lib.ListN.{length, get_or}
use mathlib.Core.List.{List}
use Rattle.records.specs.declared.Entry.{Entry}
use Rattle.owners.proofs.Tables.{record_past, record_none}
use Rattle.owners.proofs.filler_owner.Goals as goal

pub returns-in_err-e : goal.returns-in_err-e
returns-in_err-e c =
    c.from_residual.ensures ∙ sym (record_past c.args.lines.now c.args.at c.args.entry (omega (arith, c.in_err-e.ensures.lookup, ap length c.requires.made.entries_are)))

pub returns-then-e-ne0 : goal.returns-then-e-ne0
returns-then-e-ne0 c =
    let i = c.in_ok-e.ensures.lookup in
    let m = c.requires.made.entries_are in
    sym (record_none c.args.lines.now c.args.at c.in_ok-e.e.now c.args.entry (omega (arith, i, ap length m))
    (λ z. c.if-e-ne0.true (ap (λ (e : Entry). e.cell) (i.1 ∙ ap (λ (l : List Entry). get_or l c.args.entry c.in_ok-e.e.now) m) ∙ z)))
