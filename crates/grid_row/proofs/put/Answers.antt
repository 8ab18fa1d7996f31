-- `put` meets its contract: an entry that takes more than one row leaves one hanging, any other none.
use native.Mathlib.Omega.{arith}
use Rattle.records.specs.inner.Figures.{entry_cell, entry_span}
use Rattle.std.proofs.lemmas.List.{map-set}
use Rattle.grid_row.specs.inner.Overhangs.{hung_left, hung_at, hung_span}
use Rattle.grid_row.proofs.Steps.{put_more, put_none}
use Rattle.grid_row.proofs.put.Goals as goal

pub returns-then-rows-le1 : goal.returns-then-rows-le1
returns-then-rows-le1 c =
    let a = c.args in
    rw (map-set entry_cell a.entries.now a.n _, map-set entry_span a.entries.now a.n _) (put_none _ _ _ _ _ _ _ _ (omega (arith, c.if-rows-le1.true)))

pub returns : goal.returns
returns c =
    let a = c.args in
    rw (map-set entry_cell a.entries.now a.n _, map-set entry_span a.entries.now a.n _, map-set hung_left a.next.now a.k _, map-set hung_at a.next.now a.k _, map-set hung_span a.next.now a.k _)
    (put_more _ _ _ _ _ _ _ _ (omega (arith, c.if-rows-le1.false)))
