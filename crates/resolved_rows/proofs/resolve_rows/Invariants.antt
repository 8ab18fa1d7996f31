-- `resolved_rows::resolve_rows` meets its contract. The loop's invariant (`Sofar`): the cells before `from` are resolved and those from there on are as they
-- were; with the rows from row j on resolved they are the whole body resolved. No row's sum passes `most`, so the difference is one.
use Rattle.records.specs.inner.Figures.{row_ends_of}
use Rattle.resolved_rows.proofs.Resolving.{Sofar}
use Rattle.resolved_rows.proofs.resolve_rows.Given as goal

abbrev pub invariant-loop-j : goal.invariant-loop-j
invariant-loop-j l = Sofar l.first (row_ends_of l.rows) l.initial.cells l.cells l.most l.from l.j
