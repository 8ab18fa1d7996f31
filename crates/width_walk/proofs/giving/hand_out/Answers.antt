-- `width_walk::giving::hand_out` meets its contract: the table can be laid out, and the widths of its entries are those of its cells, by the laws of HandOut.
use mathlib.Core.Path.{◌≡◌, refl, sym, ◌∙◌}
use native.Mathlib.Omega.{arith}
use lib.ListN.{get_or}
use lib.Seq.{length-take-le}
use borrow.Author.Tests.{eqb-true, not-false}
use Rattle.kinds.specs.Kinds.{kind_number, table_kind}
use Rattle.records.specs.NodeRecord.{no_node}
use Rattle.width_walk.proofs.Merely.{walkable}
use Rattle.width_walk.proofs.HandOut.{table_known, grid_capacity, layout_capacity, small_here, cells_fit, wides_capacity, handed, handed_at, handed_none}
use Rattle.width_walk.proofs.giving.hand_out.Goals as goal
use Rattle.width_walk.proofs.giving.hand_out.Goals.{Else-ne}

-- the line is a table
is_table : (c : Else-ne) → kind_number (get_or c.args.m.lines.now c.args.at no_node).kind ≡ table_kind
is_table c = eqb-true _ _ (not-false _ (sym c.ne.ensures ∙ c.if-ne.false))

pub returns-in_default : goal.returns-in_default
returns-in_default c = handed_none c.in_default.is

pub invariant_of-t : goal.invariant_of-t
invariant_of-t c = record { known = table_known (walkable c.args.m.walkable) c.requires.hand_ready.within (is_table (goal.at.invariant_of-t c).Else-ne) }

pub arrange-arranged-requires : goal.arrange-arranged-requires
arrange-arranged-requires c =
    let p = walkable c.args.m.walkable in
    let kind = is_table (goal.at.arrange-arranged-requires c).Else-ne in
    let within = c.requires.hand_ready.within in
    let capacities = c.args.s.now.capacities in record {
      grid_capacity = grid_capacity p within kind capacities;
      layout_capacity = layout_capacity p within kind capacities (small_here c.in-Some.is c.requires.hand_ready);
    }

pub slice_bounds-print_cells-end-2 : goal.slice_bounds-print_cells-end-2
slice_bounds-print_cells-end-2 c =
    let w = wides_capacity (walkable c.args.m.walkable) c.requires.hand_ready.within (is_table (goal.at.slice_bounds-print_cells-end-2 c).Else-ne) _ _ c.args.s.now.capacities c.arrange-arranged.auto.wide in
    sym (length-take-le _ _ (omega (arith, c.arrange-arranged.ensures.made.entries_are, w)))

pub print_cells-requires : goal.print_cells-requires
print_cells-requires c =
    let p = walkable c.args.m.walkable in
    let kind = is_table (goal.at.print_cells-requires c).Else-ne in
    cells_fit p c.requires.hand_ready.within c.arrange-arranged.ensures _
    (wides_capacity p c.requires.hand_ready.within kind _ _ c.args.s.now.capacities c.arrange-arranged.auto.wide) c.requires.lines_in_bounds

pub returns : goal.returns
returns c =
    let p = walkable c.args.m.walkable in
    let kind = is_table (goal.at.returns c).Else-ne in
    handed_at c.in-Some.is
    (handed p c.requires.hand_ready.within c.arrange-arranged.ensures kind _ refl (wides_capacity p c.requires.hand_ready.within kind _ _ c.args.s.now.capacities c.arrange-arranged.auto.wide)
    _ _ c.requires.lines_in_bounds c.print_cells.ensures)
