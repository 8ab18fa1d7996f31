-- The cells of the table in a line of an opened sheet, measured.
use Rattle.common.specs.declared.Refusal.{Refusal}
use Rattle.std.specs.Prelude.{Result, Ok, Some}
use mathlib.Core.Path.{◌≡◌}
use mathlib.Core.List.{List}
use Prim.Native.Nat.{ℕ, ◌-◌, ◌≤◌}
use native.Mathlib.Omega.{arith}
use lib.ListN.{length, take}
use Rattle.records.specs.declared.NodeRecord.{NodeRecord}
use Rattle.text.specs.declared.Estimate.{Estimate}
use Rattle.sheet.specs.inner.Steps.{line_bound}
use Rattle.estimates.specs.inner.Meets.{CellsMeasured}
use Rattle.sheet_load.specs.inner.Opened.{OpenSheetPost}
use Rattle.sheet_load.specs.inner.Measures.{MeasureTablePost}
use Rattle.sheet_load.proofs.Measurable.{cells_known}
use Rattle.table_layout.specs.Arranging.{TableKnown}
use Rattle.table_layout.proofs.Capacities.{asked_known}
use Rattle.sheet_figures.specs.inner.Opened.{LinesOf}
use Rattle.sheet_figures.proofs.Openings.{opened_at, opened_passed, asked_lines}

module _ {s : List ℕ} {line wrap : ℕ} {read : Result ℕ Refusal} {n : ℕ} {lines : List NodeRecord} {figures : List Estimate} where
  pub lines_of : MeasureTablePost s line wrap read lines figures → read ≡ Ok n → LinesOf s line wrap n lines figures
  lines_of m e = record { opened = opened_at m.opened e; measured = m.measured n e }

  pub lines_below : {b : List Estimate} → OpenSheetPost (Some line) s read lines → read ≡ Ok n → CellsMeasured wrap (take n lines) (line - 1) b figures → LinesOf s line wrap n lines figures
  lines_below w e m = record { opened = opened_at w e; measured = cells_known w n e m }

module _ {s : List ℕ} {line wrap n : ℕ} {lines : List NodeRecord} {figures : List Estimate} (w : LinesOf s line wrap n lines figures) where
  -- the table can be laid out
  pub table_known : line_bound s ≤ length figures → TableKnown (take n lines) figures (line - 1)
  table_known h =
      let p = opened_passed w.opened in
      let m = w.measured in
      asked_known (asked_lines w.opened)
      (rw w.opened.holds
      (record { enough = omega (arith, p.capacity, p.kept); fits = λ k c. rw (m.cells k c) (m.sound k c).least_size }))
