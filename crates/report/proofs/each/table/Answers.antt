-- `report::each::table` meets its contract: a table of a walked sheet can be laid out in the lent slices, and what is laid out can be explained there.
use mathlib.Core.Path.{sym}
use Prim.Native.Nat.{◌≤◌}
use native.Mathlib.Omega.{arith}
use lib.ListN.{length}
use lib.Seq.{length-take-le}
use Rattle.common.specs.Limits.{max_position}
use Rattle.grid_build.proofs.Cut.{made_within}
use Rattle.report.proofs.Ready.{few_columns, explainable}
use Rattle.width_walk.proofs.Merely.{walkable}
use Rattle.width_walk.proofs.HandOut.{table_known, layout_capacity}
use Rattle.report.proofs.each.table.Goals as goal
use Rattle.report.proofs.each.table.Goals.{After-arrange-arranged}

pub invariant_of-t : goal.invariant_of-t
invariant_of-t c = record { known = table_known (walkable c.args.m.walkable) c.requires.within c.requires.kind }

pub arrange-arranged-requires-clause-layout_capacity : goal.arrange-arranged-requires-clause-layout_capacity
arrange-arranged-requires-clause-layout_capacity c =
    layout_capacity (walkable c.args.m.walkable) c.requires.within c.requires.kind c.args.s.now.capacities c.args.asked.width_bound

few : (c : After-arrange-arranged) → c.arrange-arranged.result.counts.columns ≤ max_position
few c = few_columns (walkable c.args.m.walkable) c.requires c.arrange-arranged.ensures.made.columns_are

pub overflow_cast-counts : goal.overflow_cast-counts
overflow_cast-counts c = omega (arith, few (goal.at.overflow_cast-counts c).After-arrange-arranged)

pub records-requires : goal.records-requires
records-requires c = made_within c.arrange-arranged.ensures.made

columns : (c : After-arrange-arranged) → c.arrange-arranged.result.counts.columns ≤ length c.arrange-arranged.new.column
columns c = omega (arith, few c, c.args.s.now.capacities.column_capacity, c.arrange-arranged.auto.column)

pub slice_bounds-shown-end : goal.slice_bounds-shown-end
slice_bounds-shown-end c = sym (length-take-le _ _ (columns (goal.at.slice_bounds-shown-end c).After-arrange-arranged))

pub shown-requires : goal.shown-requires
shown-requires c =
    let a = c.arrange-arranged in
    let at = (goal.at.shown-requires c).After-arrange-arranged in
    record {
      explainable = explainable (walkable c.args.m.walkable) c.requires a.ensures.made c.records.ensures c.args.s.now.capacities a.auto.x;
      cause_in = omega (arith, few at, c.records.ensures.columns_are, c.args.s.now.capacities.wide_capacity, a.auto.wide);
    }
