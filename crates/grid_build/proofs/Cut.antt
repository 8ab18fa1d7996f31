-- The records of a grid, cut from the slices that it was made in, are all of its table's.
use mathlib.Core.Path.{ap, ◌∙◌}
use mathlib.Core.List.{List}
use Prim.Native.Nat.{ℕ, ◌≤◌}
use native.Mathlib.Omega.{arith}
use lib.ListN.{length, take, length-map}
use Rattle.std.proofs.lemmas.List.{length-take}
use Rattle.records.specs.declared.Entry.{Entry}
use Rattle.records.specs.declared.RowEnd.{RowEnd}
use Rattle.resolved_rows.specs.Cells as cells
use Rattle.grid.specs.Grid.{grid_of, entries_of}
use Rattle.grid.specs.Judging.{shown}
use Rattle.grid_build.specs.inner.Records.{TableMade}
use Rattle.grid_build.specs.inner.Cut.{RecordsPost, GridRecords}
use Rattle.grid_build.specs.declared.Counts.{Counts}
use Rattle.grid_build.proofs.RowRecords.{ended_length}

module _ {table : List cells.Row} {counts : Counts} {es : List Entry} {rs : List RowEnd} (m : TableMade table counts es rs) where
  -- the slices have them
  pub made_within : (counts.entries ≤ length es) × (counts.rows ≤ length rs)
  made_within = (
    omega (arith, m.entries_are, length-take (length (entries_of (grid_of table))) es, ap length m.entries, length-map (entries_of (grid_of table)) shown),
    omega (arith, m.rows_are, length-take (length (grid_of table)) rs, ap length m.rows, ended_length (grid_of table)),
  )

  pub made_records : {entries : List Entry} {rows : List RowEnd} {columns : ℕ} → RecordsPost counts es rs entries rows columns → GridRecords table entries rows columns
  made_records r = record {
    entries_are = r.entries_are ∙ ap (λ (n : ℕ). take n es) m.entries_are ∙ m.entries;
    rows_are = r.rows_are ∙ ap (λ (n : ℕ). take n rs) m.rows_are ∙ m.rows;
    columns_are = r.columns_are ∙ m.columns_are;
  }
