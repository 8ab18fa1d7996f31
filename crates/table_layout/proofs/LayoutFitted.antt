-- The buffers of a layout have room for it.
use mathlib.Core.List.{List}
use Prim.Native.Nat.{ℕ, ◌≤◌}
use native.Mathlib.Omega.{arith}
use Rattle.common.specs.Limits.{max_size}
use Rattle.resolved_rows.specs.Cells as cells
use Rattle.grid.specs.Facts.{Sound}
use Rattle.grid.proofs.GridFacts.{grid_entries, grid_columns}
use Rattle.table_layout.specs.inner.Capacity.{ArrangePre}
use Rattle.table_layout.specs.inner.Asked.{OutCapacity}

pub layout_capacity : {t : List cells.Row} {width : ℕ} {column x wide : List ℕ} → Sound t → width ≤ max_size → OutCapacity column x wide → ArrangePre t width column x wide
layout_capacity {t} s h r = record {
  column_capacity = omega (arith, grid_columns t s, r.column_capacity);
  x_capacity = omega (arith, grid_entries t s, r.x_capacity);
  wide_capacity = omega (arith, grid_entries t s, r.wide_capacity);
  small = h;
}
