-- `column_sizes::raise_columns` meets its contract. The loop's invariant, `Sofar`: what stands in the columns is the largest that the first i entries
-- give. A turn passes an entry without a size, or raises its columns by its two quotients; the parts that are lent lie within the columns,
-- as the entry ends there.
use mathlib.Core.Path.{◌≡◌, refl}
use native.Mathlib.Omega.{arith}
use lib.ListN.{length, get_or, replicate}
use Rattle.std.proofs.Common.{rules}
use Rattle.records.specs.inner.NodeRecord.{no_entry}
use Rattle.columns.specs.Boxes.{box}
use Rattle.column_sizes.specs.inner.Capacity.{Whole}
use Rattle.column_sizes.proofs.Raises.{raise_start, sizes_count, leasts_count, entry_whole, raise_skip, raise_turn}
use Rattle.column_sizes.proofs.raise_columns.Goals as goal
use Rattle.column_sizes.proofs.raise_columns.Goals.{After-figures_of-f, then-f-ne0, else-f-ne0}

-- it has a column and ends within the columns
whole : (c : After-figures_of-f) → let e = get_or c.args.entries.now c.loop-e.e-index no_entry in
    let f = c.figures_of-f.result in
    Whole (length c.args.sizes.now) (box e.first e.span f.size f.least)
whole c =
    entry_whole c.requires refl c.loop-e.invariant c.loop-e-test.true refl
    c.figures_of-f.ensures

pub loop-e-init : goal.loop-e-init
loop-e-init c =
    let sizes : c.fill.new.self ≡ replicate (length c.args.sizes.now) 0 = search rules in
    let leasts : c.fill-2.new.self ≡ replicate (length c.args.leasts.now) 0 = search rules in
    raise_start c.requires refl sizes leasts

pub offset_bounds-sizes-columns : goal.offset_bounds-sizes-columns
offset_bounds-sizes-columns c = omega (arith, (whole (goal.at.offset_bounds-sizes-columns c).After-figures_of-f).ends)

pub offset_bounds-leasts-columns : goal.offset_bounds-leasts-columns
offset_bounds-leasts-columns c = omega (arith, (whole (goal.at.offset_bounds-leasts-columns c).After-figures_of-f).ends)

pub slice_bounds-raise-end : goal.slice_bounds-raise-end
slice_bounds-raise-end c =
    omega (arith, (whole (goal.at.slice_bounds-raise-end c).After-figures_of-f).ends, sizes_count c.requires refl c.loop-e.invariant)

pub nonzero_div-f : goal.nonzero_div-f
nonzero_div-f c = (whole (goal.at.nonzero_div-f c).After-figures_of-f).some

pub slice_bounds-raise-end-then-f-ne0 : goal.slice_bounds-raise-end-then-f-ne0
slice_bounds-raise-end-then-f-ne0 c =
    omega (arith, (whole (goal.at.slice_bounds-raise-end-then-f-ne0 c).After-figures_of-f).ends, leasts_count c.requires refl c.loop-e.invariant)

pub nonzero_div-f-then-f-ne0 : goal.nonzero_div-f-then-f-ne0
nonzero_div-f-then-f-ne0 c = (whole (goal.at.nonzero_div-f-then-f-ne0 c).After-figures_of-f).some

pub loop-e-preserved : goal.loop-e-preserved
loop-e-preserved c =
    elim c.if-f-ne0.branch [
      | then-f-ne0 w ↦
          rw (w.sizes-is, w.leasts-is)
          (raise_turn c.requires refl c.loop-e.invariant c.loop-e-test.true refl c.figures_of-f.ensures
          w.columns.ensures.start (omega arith) w.raise.ensures
          w.columns-then-f-ne0.ensures.start (omega arith) w.raise-then-f-ne0.ensures)
      | else-f-ne0 w ↦
          rw (w.sizes-is, w.leasts-is)
          (raise_skip c.requires refl c.loop-e.invariant c.loop-e-test.true refl c.figures_of-f.ensures w.if-f-ne0.false)
    ]
