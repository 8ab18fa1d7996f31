-- One table of a measured sheet: its grid's entries are whole in its columns, and what is told of them is what the definition says of its boxes.
use Rattle.answers.specs.Answers.{causes_with}
use mathlib.Core.Path.{◌≡◌, sym, ap, ◌∙◌}
use mathlib.Core.List.{List, ◌++◌, map}
use Prim.Native.Nat.{ℕ, ◌≤◌}
use native.Mathlib.Omega.{arith}
use lib.ListN.{length, take, length-map}
use lib.Seq.{length-take-le, take_at}
use Rattle.common.specs.Limits.{max_entries, max_position}
use Rattle.text.specs.declared.Estimate.{Estimate}
use Rattle.records.specs.declared.Entry.{Entry}
use Rattle.records.specs.declared.RowEnd.{RowEnd}
use Rattle.columns.specs.Boxes.{Box, flat}
use Rattle.columns.specs.inner.Boxes.{TilesAll}
use Rattle.columns.specs.Columns.{size_of, least_of, largest}
use Rattle.resolved_rows.specs.Cells as cells
use Rattle.resolved_rows.specs.Listed.{table_rows}
use Rattle.grid.specs.Grid.{grid_of, entries_of}
use Rattle.grid.specs.Judging.{shown}
use Rattle.grid.proofs.GridFacts.{grid_entries, grid_columns}
use Rattle.grid_build.specs.inner.Records.{TableMade}
use Rattle.grid_build.specs.inner.Cut.{RecordsPost}
use Rattle.grid_build.specs.declared.Counts.{Counts}
use Rattle.grid_build.proofs.Cut.{made_records}
use Rattle.column_sizes.specs.inner.Sizing.{entry_box}
use Rattle.table_layout.specs.Laying.{widths_in, places_in}
use Rattle.table_layout.specs.inner.Laying.{box_rows_by}
use Rattle.table_layout.specs.declared.MeasuredTable.{MeasuredTable}
use Rattle.table_layout.proofs.Grids.{made_entered, made_tiles, made_flat, made_rows}
use Rattle.causes.specs.Causes.{causes, missing_from}
use Rattle.causes.specs.inner.Hidden.{hidden_from}
use Rattle.causes.specs.inner.Tables.{causes_in, hidden_in, ExplainPre, ExplainPost}
use Rattle.causes.proofs.Missed.{missing_are, hidden_entries}
use Rattle.causes.proofs.Told.{missing_few}
use Rattle.call_missing.specs.inner.Found.{ExplainCapacity, TableExplained, MissingMade}

-- ---- the boxes of the entries

module _ (es : List Entry) (figures : List Estimate) (rows : List (List Box)) (e : flat rows ≡ map (entry_box figures) es) (c raw width : ℕ) where
  causes_of : causes_in es figures c raw width ≡ causes (largest size_of (flat rows) c) (largest least_of (flat rows) c) (widths_in c rows raw width) width
  unfolding causes_in
  causes_of = rw e

  hidden_of : TilesAll c rows → hidden_in es figures c raw width ≡ missing_from 0 (places_in c rows raw width)
  hidden_of t =
      hidden_entries figures (causes_in es figures c raw width) 0 es
      ∙ ap (λ (cs : List ℕ). hidden_from 0 (map (entry_box figures) es) cs) causes_of
      ∙ ap (λ (bs : List Box). hidden_from 0 bs (causes (largest size_of (flat rows) c) (largest least_of (flat rows) c) (widths_in c rows raw width) width)) (sym e)
      ∙ missing_are c rows raw width t

  table_told : TilesAll c rows → {r : ℕ} {entry cause : List ℕ} → r ≡ length (hidden_in es figures c raw width)
      → take r entry ≡ hidden_in es figures c raw width → take c cause ≡ causes_in es figures c raw width → TableExplained c rows raw width (causes_with r c) entry cause
  table_told t k h cs = record {
    answer = ap (λ (m : ℕ). causes_with m c) (k ∙ ap length (hidden_of t));
    entries = h ∙ hidden_of t;
    causes = cs ∙ causes_of;
  }

-- ---- one table

module _ (k : MeasuredTable) {counts : Counts} {es : List Entry} {rs : List RowEnd} (w : TableMade (table_rows k.lines.now k.at) counts es rs)
    {entries : List Entry} {rows : List RowEnd} {columns : ℕ} (p : RecordsPost counts es rs entries rows columns) where
  abbrev T : List cells.Row
  T = table_rows k.lines.now k.at

  few : (length entries ≤ max_entries) × (columns ≤ max_position)
  few =
      let g = made_records w p in (
        omega (arith, ap length g.entries_are, length-map (entries_of (grid_of T)) shown, grid_entries T k.known.sound),
        omega (arith, g.columns_are, grid_columns T k.known.sound),
      )

  -- there are places for the causes
  pub columns_in : {entry₀ cause₀ : List ℕ} → ExplainCapacity entry₀ cause₀ → columns ≤ length cause₀
  columns_in capacity = omega (arith, few.1, capacity.cause_capacity)

  pub explainable : {entry₀ cause₀ : List ℕ} → ExplainCapacity entry₀ cause₀ → ExplainPre entries k.figures.now (length (take columns cause₀)) entry₀
  explainable {cause₀ = cause₀} capacity =
      rw (length-take-le columns cause₀ (columns_in capacity))
      (record {
        entries_few = few.0;
        columns_few = few.1;
        entry_in = omega (arith, few.0, capacity.entry_capacity);
        entered = made_entered k.known w p;
      })

  module _ {entry₀ cause₀ : List ℕ} (capacity : ExplainCapacity entry₀ cause₀) {raw width r : ℕ} {entry cause : List ℕ}
      (t : ExplainPost entries k.figures.now (length (take columns cause₀)) raw width r entry cause) where
    -- so few are listed that they can be counted in 32 bits
    pub made_few : (r ≤ max_entries) × (columns ≤ max_position)
    made_few = (omega (arith, few.0, missing_few (explainable capacity) t), few.1)

    pub made_told : length cause ≡ length (take columns cause₀) → (rest : List ℕ) → MissingMade k.lines.now k.at k.figures.now raw width (causes_with r columns) entry (cause ++ rest)
    made_told e rest =
        let c = length-take-le columns cause₀ (columns_in capacity) in
        let t' = rw c at t in
        record {
          few_entries = made_few.0;
          few_columns = omega (arith, made_few.1);
          told = λ wrap f.
              rw (← (made_records w p).columns_are, ← made_rows k.known w p wrap f)
              (table_told entries k.figures.now (box_rows_by rows entries k.figures.now) (made_flat k.known w p) columns raw width
              (made_tiles k.known w p) t'.count t'.entries (take_at cause rest columns (e ∙ c) ∙ t'.causes));
        }
