-- A table of a walked sheet can be laid out and explained in slices that have the room, and the widths of a sheet that was walked are ones at which
-- tables can be laid out.
use Rattle.records.specs.declared.RowEnd.{RowEnd}
use Rattle.records.specs.declared.Entry.{Entry}
use Rattle.common.specs.declared.Refusal.{Refusal}
use Rattle.std.specs.Prelude.{Ok, Result, None, Option}
use mathlib.Core.Path.{◌≡◌, refl, sym, ap, ◌∙◌}
use mathlib.Core.List.{List}
use Prim.Native.Nat.{ℕ, ◌≤◌}
use native.Mathlib.Omega.{arith}
use lib.ListN.{length, get_or, take, length-map}
use lib.Seq.{length-take-le, get_or-take}
use Rattle.common.specs.Limits.{max_position}
use Rattle.text.specs.declared.Estimate.{Estimate}
use Rattle.records.specs.declared.NodeRecord.{NodeRecord}
use Rattle.resolved_rows.specs.Listed.{table_rows}
use Rattle.grid.specs.Facts.{Sound}
use Rattle.grid.specs.Grid.{grid_of, columns_of, entries_of}
use Rattle.grid.specs.Judging.{shown}
use Rattle.sheet.specs.inner.Steps.{line_bound}
use Rattle.grid.proofs.GridFacts.{grid_entries, grid_columns}
use Rattle.grid_build.specs.inner.Records.{TableMade}
use Rattle.grid_build.specs.inner.Cut.{RecordsPost}
use Rattle.grid_build.specs.declared.Counts.{Counts}
use Rattle.grid_build.proofs.Cut.{made_records}
use Rattle.table_layout.proofs.Grids.{made_entered}
use Rattle.sheet_load.proofs.Passing.{Passed}
use Rattle.width_walk.specs.inner.Steps.{AtMost, Walkable, ScratchCapacity}
use Rattle.width_walk.proofs.HandOut.{table_known}
use Rattle.causes.specs.inner.Tables.{ExplainPre}
use Rattle.sheet_walk.specs.inner.Found.{WalkSheetPost}
use Rattle.sheet_walk.proofs.Opening.{opened_passed, front}
use Rattle.report.specs.inner.Read.{TableAt, WalkNarrow}

-- ---- one table

module _ {ks : List NodeRecord} {figures : List Estimate} (p : Walkable ks figures) {at : ℕ} (t : TableAt ks at) where
  sound : Sound (table_rows ks at)
  sound = p.sound at t.within t.kind

  -- its columns are few
  pub few_columns : {columns : ℕ} → columns ≡ columns_of (table_rows ks at) → columns ≤ max_position
  few_columns e = omega (arith, e, grid_columns (table_rows ks at) sound)

  -- its columns can be explained
  pub explainable : {counts : Counts} {es : List Entry} {rs : List RowEnd} (m : TableMade (table_rows ks at) counts es rs) {entries : List Entry} {rows : List RowEnd} {columns : ℕ}
      → RecordsPost counts es rs entries rows columns → {grid₀ : List Entry} {rows₀ : List RowEnd} {column₀ x₀ wide₀ x : List ℕ} → ScratchCapacity grid₀ rows₀ column₀ x₀ wide₀ → length x ≡ length x₀
      → ExplainPre entries figures columns x
  explainable m {entries} r o e =
      let g = made_records m r in
      let n : length entries ≡ length (entries_of (grid_of (table_rows ks at))) = ap length g.entries_are ∙ length-map (entries_of (grid_of (table_rows ks at))) shown in
      record {
        entries_few = omega (arith, n, grid_entries (table_rows ks at) sound);
        columns_few = few_columns g.columns_are;
        entry_in = omega (arith, n, grid_entries (table_rows ks at) sound, o.x_capacity);
        entered = made_entered (table_known p t.within t.kind) m r;
      }

-- ---- the sheet

module _ {s : List ℕ} {wrap raw width overflow : ℕ} {read : Result ℕ Refusal} {lines : List NodeRecord} {figures : List Estimate} {walk : List (Option ℕ)}
    (w : WalkSheetPost None s wrap raw width overflow read lines figures walk) {n : ℕ} (e : read ≡ Ok n) where
  passed : Passed None s n
  passed = opened_passed (w.opened n e) n refl

  -- its lines are the first of the records, and can be walked
  pub lines_front : line_bound s ≤ length lines → line_bound s ≤ length figures → (n ≤ length lines) × Walkable (take n lines) figures
  lines_front h g = front (w.opened n e) h g n refl

  -- at their widths tables can be laid out
  pub narrow : n ≤ length lines → line_bound s ≤ length walk → WalkNarrow (length (take n lines)) walk
  unfolding AtMost
  narrow h d =
      rw (length-take-le n lines h)
      (record {
        capacity = omega (arith, passed.capacity);
        small = λ k v l q.
            rw (sym (ap (λ (y : List (Option ℕ)). get_or y k None) (w.widths n e)) ∙ get_or-take n walk k None l ∙ q) at (w.small n e k);
      })
