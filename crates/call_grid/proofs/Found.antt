-- The grid of the table in a line of a sheet that was read is the one asked for.
use Rattle.common.specs.declared.Refusal.{Refusal}
use Rattle.std.specs.Prelude.{Err, Ok, Some}
use mathlib.Core.Path.{◌≡◌, sym}
use mathlib.Core.List.{List}
use Prim.Native.Nat.{ℕ, ◌-◌, ◌≤◌}
use native.Mathlib.Omega.{arith}
use lib.ListN.{length, take}
use Rattle.common.specs.Limits.{max_entries, max_lines, max_position}
use Rattle.records.specs.declared.NodeRecord.{NodeRecord}
use Rattle.records.specs.declared.Entry.{Entry}
use Rattle.records.specs.declared.RowEnd.{RowEnd}
use Rattle.resolved_rows.specs.Listed.{table_rows}
use Rattle.grid_build.specs.inner.Cut.{GridRecords}
use Rattle.grid.proofs.Rebuilt.{held_few}
use Rattle.grid.proofs.GridFacts.{grid_rows, grid_entries}
use Rattle.sheet_load.specs.Opening.{nodes_of, open_checks, opened_of}
use Rattle.table_layout.specs.inner.Asked.{Asked}
use Rattle.sheet_figures.specs.Figures.{rows_at}
use Rattle.sheet_figures.specs.inner.Opened.{OpenedAt}
use Rattle.sheet_figures.proofs.Openings.{failed, told, opened_passed}
use Rattle.call_grid.specs.inner.Found.{GridCapacity, GridFound}
use Rattle.call_grid.specs.inner.Made.{answer_of, WriteGridPre, WriteGridPost}
use Rattle.call_grid.proofs.Told.{records_few, grid_written, grid_none}

-- ---- the lent buffers

-- buffers that are as long as they were have the same room
pub room_still : {cell cell' first₀ first' span span' row row' end end' : List ℕ} → length cell' ≡ length cell → length first' ≡ length first₀ → length span' ≡ length span
    → length row' ≡ length row → length end' ≡ length end → GridCapacity cell first₀ span row end → GridCapacity cell' first' span' row' end'
room_still a b c d e o =
    record {
      cell_capacity = omega (arith, o.cell_capacity);
      first_capacity = omega (arith, o.first_capacity);
      span_capacity = omega (arith, o.span_capacity);
      row_capacity = omega (arith, o.row_capacity);
      end_capacity = omega (arith, o.end_capacity);
    }

-- there are places for the figures of the records that were made
pub figures_fit : {es : List Entry} {rs : List RowEnd} {cell first' span row end : List ℕ} → length es ≤ max_entries → length rs ≤ max_lines → GridCapacity cell first' span row end
    → WriteGridPre es rs cell first' span row end
figures_fit h g o = record {
  cells_fit = omega (arith, o.cell_capacity);
  firsts_fit = omega (arith, o.first_capacity);
  spans_fit = omega (arith, o.span_capacity);
  rows_fit = omega (arith, o.row_capacity);
  ends_fit = omega (arith, o.end_capacity);
}

-- ---- the grid asked for

-- its records fit 32 bits
pub records_small : {ks : List NodeRecord} {line : ℕ} → Asked ks line → {es : List Entry} {rs : List RowEnd} {columns : ℕ} → GridRecords (table_rows ks (line - 1)) es rs columns
    → (length es ≤ max_entries) × (length rs ≤ max_lines) × (columns ≤ max_position)
records_small {ks} {line} a m = records_few a.sound m (omega (arith, held_few ks (line - 1), a.lined.short))

module _ (s : List ℕ) (line : ℕ) {cell first' span row end : List ℕ} where
  pub grid_found : {n : ℕ} {lines : List NodeRecord} → OpenedAt s line n lines → {es : List Entry} {rs : List RowEnd} {columns : ℕ} → GridRecords (table_rows (take n lines) (line - 1)) es rs columns
      → WriteGridPost es rs cell first' span row end → GridFound (open_checks (Some line) s) s line (Ok (answer_of es rs columns)) cell first' span row end
  grid_found w m₀ t =
      let m = rw w.holds at m₀ in
      let ks = nodes_of s in
      grid_written (rows_at s line) m.entries_are m.rows_are t (open_checks (Some line) s) (opened_passed w).all m.columns_are
      (grid_entries (table_rows ks (line - 1)) w.sound)
      (omega (arith, grid_rows (table_rows ks (line - 1)) w.sound, held_few ks (line - 1), (opened_passed w).few, (opened_passed w).kept))

  pub grid_refused : {why : Refusal} → opened_of (Some line) s ≡ Err why → GridFound (open_checks (Some line) s) s line (Err why) cell first' span row end
  grid_refused {why} o = grid_none (open_checks (Some line) s) (failed (Some line) s why o) (sym (told (Some line) s Err _ why o))
