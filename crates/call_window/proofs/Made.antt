-- One table of a measured sheet: its grid's records can be reported on, and the lines of the report are those of the definition's boxes.
use mathlib.Core.Path.{◌≡◌, ap, ◌∙◌}
use mathlib.Core.List.{List, ◌++◌, map}
use Prim.Native.Nat.{ℕ}
use native.Mathlib.Omega.{arith}
use lib.ListN.{length, take, length-map}
use lib.Seq.{length-take-le, take_at}
use Rattle.records.specs.declared.Entry.{Entry}
use Rattle.records.specs.declared.RowEnd.{RowEnd}
use Rattle.resolved_rows.specs.Listed.{table_rows}
use Rattle.grid.specs.Grid.{grid_of, entries_of}
use Rattle.grid.specs.Judging.{shown}
use Rattle.grid.proofs.GridFacts.{grid_entries, grid_columns}
use Rattle.grid_build.specs.inner.Records.{TableMade}
use Rattle.grid_build.specs.inner.Cut.{RecordsPost}
use Rattle.grid_build.specs.declared.Counts.{Counts}
use Rattle.grid_build.proofs.Cut.{made_records}
use Rattle.table_layout.specs.inner.Laying.{box_rows_by}
use Rattle.table_layout.specs.declared.MeasuredTable.{MeasuredTable}
use Rattle.table_layout.proofs.Grids.{made_entered, made_tiles, made_flat, made_rows}
use Rattle.window.specs.inner.Report.{WriteReportPre, WriteReportPost}
use Rattle.call_window.specs.inner.Found.{ReportCapacity, WindowMade}

-- a list with a figure for each width is the front of a buffer that begins with it
front : (widths xs rest : List ℕ) (f : ℕ → ℕ) → xs ≡ map f widths → take (length widths) (xs ++ rest) ≡ map f widths
front widths xs rest f e = take_at xs rest (length widths) (ap length e ∙ length-map widths f) ∙ e

module _ (k : MeasuredTable) {counts : Counts} {es : List Entry} {rs : List RowEnd} (w : TableMade (table_rows k.lines.now k.at) counts es rs)
    {entries : List Entry} {rows : List RowEnd} {columns : ℕ} (p : RecordsPost counts es rs entries rows columns) {widths : List ℕ} where
  pub reportable : {way wide missing : List ℕ} → ReportCapacity widths way wide missing
      → WriteReportPre entries rows k.figures.now columns widths (take (length widths) way) (take (length widths) wide) (take (length widths) missing)
  reportable capacity = record {
    entered = made_entered k.known w p;
    tiles = made_tiles k.known w p;
    holds = made_flat k.known w p;
    entries_few = omega (arith, ap length (made_records w p).entries_are, length-map (entries_of (grid_of (table_rows k.lines.now k.at))) shown, grid_entries (table_rows k.lines.now k.at) k.known.sound);
    few = omega (arith, (made_records w p).columns_are, grid_columns (table_rows k.lines.now k.at) k.known.sound);
    way_length = length-take-le _ _ capacity.way_capacity;
    wide_length = length-take-le _ _ capacity.wide_capacity;
    missing_length = length-take-le _ _ capacity.missing_capacity;
  }

  pub window_made : {raw : ℕ} {way wide missing : List ℕ} → WriteReportPost columns (box_rows_by rows entries k.figures.now) raw widths way wide missing
      → (u v z : List ℕ) → WindowMade k.lines.now k.at k.figures.now raw widths (way ++ u) (wide ++ v) (missing ++ z)
  window_made {way = way} {wide = wide} {missing = missing} g u v z = record {
    reported = λ wrap f.
        rw (← (made_records w p).columns_are, ← made_rows k.known w p wrap f)
        (record {
          ways = front widths way u _ g.ways;
          wides = front widths wide v _ g.wides;
          missings = front widths missing z _ g.missings;
        });
  }
