-- `report_causes::put_table` meets its contract: the missing ones are few (`missing_few`).
use native.Mathlib.Omega.{arith}
use lib.Seq.{length-take-le}
use Rattle.causes.proofs.Told.{missing_few}
use Rattle.report_causes.proofs.put_table.Goals as goal

pub invariant_of-missed : goal.invariant_of-missed
invariant_of-missed c =
    let p = c.requires.explainable in
    let r = rw (length-take-le _ c.args.cause.now c.requires.cause_in) at c.explain-count.ensures in
    let f = missing_few p r in
    record { few = omega (arith, f, p.entries_few, length-take-le c.explain-count.result c.explain-count.new.entry (omega (arith, f, p.entry_in, c.explain-count.auto.entry))) }
