-- A sheet opened, measured and walked, by its bytes.
use Rattle.records.specs.declared.NodeRecord.{NodeRecord}
use Rattle.common.specs.declared.Refusal.{Refusal}
use Rattle.std.specs.Prelude.{◌≡◌, List, ℕ, ◌<◌, length, get_or, take, Err, Ok, Result, None, Option}
use Rattle.common.specs.Limits.{max_size}
use Rattle.common.specs.Refusals.{first_answer}
use Rattle.kinds.specs.Kinds.{kind_number, table_kind}
use Rattle.text.specs.declared.Estimate.{Estimate}
use Rattle.records.specs.NodeRecord.{no_node}
use Rattle.sheet.specs.Sheet.{sheet_lines}
use Rattle.resolved_rows.specs.Listed.{table_rows}
use Rattle.grid.specs.Facts.{Sound}
use Rattle.estimates.specs.inner.Sheet.{Sheet}
use Rattle.sheet_load.specs.Opening.{nodes_of, opened_of}
use Rattle.sheet_load.specs.inner.Measures.{LinesMeasured}
use Rattle.width_walk.specs.inner.Steps.{AtMost}
use Rattle.sheet_walk.specs.Sheets.{walk_of, walked_checks}

-- ---- a sheet opened and measured

pub record OpenMeasuredPost (asked : Option ℕ) (s : List ℕ) (wrap : ℕ) (r : Result ℕ Refusal) (lines : List NodeRecord) (figures : List Estimate) : Type 0 where
  pub answer : r ≡ opened_of asked s
  pub holds : (n : ℕ) → r ≡ Ok n → take n lines ≡ nodes_of s
  pub sheet : (n : ℕ) → r ≡ Ok n → Sheet (nodes_of s)
  pub sound : (n : ℕ) → r ≡ Ok n → (t : ℕ) → t < length (nodes_of s) → kind_number (get_or (nodes_of s) t no_node).kind ≡ table_kind → Sound (table_rows (nodes_of s) t)
  pub measured : (n : ℕ) → r ≡ Ok n → LinesMeasured wrap (nodes_of s) figures

-- ---- a sheet walked

pub record WalkSheetPost (asked : Option ℕ) (s : List ℕ) (wrap raw width overflow : ℕ) (r : Result ℕ Refusal) (lines : List NodeRecord) (figures : List Estimate) (ps : List (Option ℕ)) : Type 0 where
  pub answer : r ≡ first_answer Err (Ok (length (sheet_lines s))) (walked_checks asked s wrap raw width overflow)
  pub opened : (n : ℕ) → r ≡ Ok n → OpenMeasuredPost asked s wrap (Ok n) lines figures
  pub widths : (n : ℕ) → r ≡ Ok n → take n ps ≡ walk_of s wrap raw width
  pub small : (n : ℕ) → r ≡ Ok n → (k : ℕ) → AtMost max_size (get_or (walk_of s wrap raw width) k None)
