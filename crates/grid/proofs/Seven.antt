-- Refusal 7 is impossible: every entry of rows ends at an edge of these rows, in the definitions and where they are numbered, and the answers of every
-- table are 5 or 6.
use mathlib.Core.Path.{◌≡◌, sym, ap, ◌∙◌}
use mathlib.Core.Bool.{Bool, true, cond}
use mathlib.Core.List.{List}
use Prim.Native.Nat.{ℕ}
use lib.Dec.{eqb}
use Rattle.common.specs.Lists.{mem}
use Rattle.records.specs.declared.Entry.{Entry}
use Rattle.column_edges.specs.Edges.{all_at}
use Rattle.column_edges.specs.inner.Edges.{rows_ends}
use Rattle.std.specs.Prelude.{Option, Some, None}
use Rattle.column_edges.proofs.Columns.{all_mem}
use Rattle.resolved_rows.specs.Cells as cells
use Rattle.grid_positions.specs.Positions.{PositionRow, all_rows}
use Rattle.grid.specs.Grid.{is_column_edge, ends_of}
use Rattle.grid.specs.inner.Numbering.{most_columns, numbered_rows, RowsNumbered}
use Rattle.grid.specs.inner.Placing.{edge_of_rows}
use Rattle.common.proofs.Tests.{or_right}

-- the entries of rows end at their own edges
own_edges : (rs : List PositionRow) → all_at (is_column_edge rs) (ends_of rs) ≡ true
unfolding mem
own_edges rs = all_mem (is_column_edge rs) (ends_of rs) (λ q e. or_right (eqb q 0) (mem q (ends_of rs)) e)

pub seven_never : (table : List cells.Row) → all_at (is_column_edge (all_rows table)) (ends_of (all_rows table)) ≡ true
seven_never table = own_edges (all_rows table)

-- so where rows are numbered by their own edges, none is missing
pub never_missing : {rs : List (List ℕ)} {line : List ℕ} {answer : Option ℕ} {es : List Entry} → RowsNumbered (edge_of_rows rs) rs line answer es → answer ≡ None → ⊥
unfolding mem numbered_rows
never_missing {rs} w e =
    let a : all_at (edge_of_rows rs) (rows_ends rs) ≡ true = all_mem (edge_of_rows rs) (rows_ends rs) (λ q m. or_right (eqb q 0) (mem q (rows_ends rs)) m) in
    let d : None ≡ Some (most_columns (edge_of_rows rs) rs) =
    sym e ∙ w.told ∙ ap (λ (b : Bool). cond b (Some (most_columns (edge_of_rows rs) rs)) None) a in
    cc
