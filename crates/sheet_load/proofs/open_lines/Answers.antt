-- `sheet_load::open_lines` meets its contract: 10, or the verdict on the tables.
use Rattle.std.proofs.Common.{rules, ◌≡◌, Err}
use mathlib.Core.Path.{refl, sym, ap, ◌∙◌}
use Rattle.sheet_load.proofs.Answers.{told_as, opened_amiss, opened_checked}
use Rattle.sheet_load.proofs.open_lines.Goals as goal

pub returns-then-asks_no_table : goal.returns-then-asks_no_table
returns-then-asks_no_table c = rw c.at.ensures (opened_amiss (sym c.asks_no_table.ensures ∙ c.if-asks_no_table.true))

pub returns : goal.returns
returns c = opened_checked _ refl _ (sym (ap (told_as _) c.in_ok-check_tables.was)) (sym c.asks_no_table.ensures ∙ c.if-asks_no_table.false) c.check_tables.ensures

pub returns-in_err-check_tables : goal.returns-in_err-check_tables
returns-in_err-check_tables c =
    let q : c.from_residual.result ≡ Err c.in_err-check_tables.field-0.0 = search rules in
    rw q (opened_checked _ refl _ (sym (ap (told_as _) c.in_err-check_tables.was)) (sym c.asks_no_table.ensures ∙ c.if-asks_no_table.false) c.check_tables.ensures)
