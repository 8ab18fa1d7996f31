-- What an accepted sheet has passed: its lines nest, its tables are sound, and the walk's own checks pass.
use Rattle.std.specs.Prelude.{Err, Ok, None}
use mathlib.Core.Path.{◌≡◌, sym, ◌∙◌}
use mathlib.Core.Bool.{true}
use mathlib.Core.List.{List}
use Prim.Native.Nat.{ℕ, ◌+◌, ◌<◌}
use native.Mathlib.Numerals.{add-one}
use native.Mathlib.Omega.{arith}
use lib.ListN.{length, get_or}
use Rattle.common.specs.Refusals.{passes}
use Rattle.kinds.specs.Kinds.{kind_number, table_kind}
use Rattle.records.specs.NodeRecord.{no_node}
use Rattle.sheet.specs.Sheet.{sheet_checks, sheet_lines}
use Rattle.sheet.specs.inner.Reading.{reading_of}
use Rattle.common.proofs.Tests.{both}
use Rattle.sheet.proofs.First.{first_passes, passes_append}
use Rattle.resolved_rows.specs.Listed.{table_rows}
use Rattle.grid.specs.Grid.{tables_checks}
use Rattle.grid.specs.Facts.{Sound}
use Rattle.grid.proofs.GridFacts.{sound_passes}
use Rattle.estimates.specs.inner.Sheet.{Sheet}
use Rattle.sheet_load.specs.Opening.{nodes_of, after_reading, open_checks}
use Rattle.sheet_load.proofs.Measurable.{sheet_of}
use Rattle.missing_theorems.proofs.Tables.{table_passes}
use Rattle.available_width.specs.Walk.{narrow_checks}
use Rattle.sheet_walk.specs.Sheets.{walked_checks}

module _ (s : List ℕ) (wrap raw width overflow : ℕ) (p : passes (walked_checks None s wrap raw width overflow) ≡ true) where
  all_pass : (passes (open_checks None s) ≡ true) × (passes (narrow_checks wrap raw width overflow (nodes_of s)) ≡ true)
  all_pass =
      both (passes (open_checks None s)) (passes (narrow_checks wrap raw width overflow (nodes_of s)))
      (sym (passes_append (open_checks None s) (narrow_checks wrap raw width overflow (nodes_of s))) ∙ p)

  opens : (passes (sheet_checks s) ≡ true) × (passes (tables_checks 1 (nodes_of s)) ≡ true)
  unfolding after_reading
  opens =
      both (passes (sheet_checks s)) (passes (tables_checks 1 (nodes_of s)))
      (sym (passes_append (sheet_checks s) (tables_checks 1 (nodes_of s))) ∙ all_pass.0)

  reads : reading_of s ≡ Ok (length (sheet_lines s))
  unfolding reading_of
  reads = first_passes Err (Ok (length (sheet_lines s))) (sheet_checks s) opens.0

  pub sheet : Sheet (nodes_of s)
  sheet = sheet_of s (length (sheet_lines s)) reads

  pub sound : (t : ℕ) → t < length (nodes_of s) → kind_number (get_or (nodes_of s) t no_node).kind ≡ table_kind → Sound (table_rows (nodes_of s) t)
  unfolding table_rows
  sound t h k =
      sound_passes (table_rows (nodes_of s) t) (t + 1)
      (rw (← add-one t) at (table_passes 1 (nodes_of s) t (t + 1) (omega arith) h k opens.1))

  pub not_narrow : passes (narrow_checks wrap raw width overflow (nodes_of s)) ≡ true
  not_narrow = all_pass.1
