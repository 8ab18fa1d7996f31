-- `estimates::spread::tabulate` meets its contract. Without columns all is zero. Else the cells are spread over the first places of the
-- scratch, as many as there are columns; what is then added up there is at most the sum of the cells, so both totals fit.
use mathlib.Core.Path.{refl}
use Prim.Native.Nat.{◌≤◌}
use native.Mathlib.Omega.{arith}
use lib.Seq.{length-take-le}
use Rattle.common.specs.Lists.{sum}
use Rattle.estimates.specs.inner.Spread.{SpreadEntriesPost, entry_boxes}
use Rattle.estimates.proofs.Tabling.{table_none, leasts_fit, table_some}
use Rattle.estimates.proofs.spread.tabulate.Goals as goal
use Rattle.estimates.proofs.spread.tabulate.Goals.{After-spread_entries-all}

-- what is spread over the first places of the scratch
spreads : (c : After-spread_entries-all) → SpreadEntriesPost (entry_boxes c.args.figures.now c.args.grid.entries.now) c.args.grid.columns c.spread_entries-all.result c.spread_entries-all.new.columns
spreads c = rw (length-take-le c.args.grid.columns c.args.leasts.now (omega (arith, c.requires.few, c.requires.capacity))) at c.spread_entries-all.ensures

leasts_le : (c : After-spread_entries-all) → sum c.spread_entries-all.new.columns ≤ c.spread_entries-all.result
leasts_le c = leasts_fit c.requires.spread (spreads c)

pub returns-then-grid-eq0 : goal.returns-then-grid-eq0
returns-then-grid-eq0 c = table_none _ refl c.if-grid-eq0.true

pub total-wide-requires : goal.total-wide-requires
total-wide-requires c = let at = (goal.at.total-wide-requires c).After-spread_entries-all in omega (arith, leasts_le at, (spreads at).all, c.requires.spread.capacity)

pub overflow_add-result-2 : goal.overflow_add-result-2
overflow_add-result-2 c =
    let at = (goal.at.overflow_add-result-2 c).After-spread_entries-all in
    omega (arith, c.total-wide.ensures, leasts_le at, (spreads at).all, c.requires.spread.capacity, c.requires.few)

pub returns : goal.returns
returns c =
    let at = (goal.at.returns c).After-spread_entries-all in
    table_some (spreads at) refl refl c.total-wide.ensures (leasts_le at) c.if-grid-eq0.false
