-- What the functions that open a sheet take and promise.
use Rattle.common.specs.declared.Refusal.{Refusal}
use Rattle.std.specs.Prelude.{◌≡◌, Bool, not, false, cond, List, ℕ, ◌-◌, ◌≤◌, length, get_or, take, Err, Ok, Result, Option, None, Some}
use Rattle.common.specs.Refusals.{first_answer}
use Rattle.kinds.specs.Kinds.{kind_number, table_kind}
use Rattle.records.specs.NodeRecord.{no_node}
use Rattle.records.specs.declared.NodeRecord.{NodeRecord}
use Rattle.grid.specs.Judging.{Lined}
use Rattle.grid_bounds.specs.inner.Sheets.{Nests, AllSound}
use Rattle.sheet_load.specs.Opening.{nodes_of, is_table, after_reading, opened_of}

-- a line that is a table
pub record Apt (ks : List NodeRecord) (line : ℕ) : Type 0 where
  pub from_one : 1 ≤ line
  pub within : line ≤ length ks
  pub kind : kind_number (get_or ks (line - 1) no_node).kind ≡ table_kind

-- a call asks for a line that is no table
unfoldable pub asks_no_table : Option ℕ → List NodeRecord → Bool
asks_no_table (Some line) ks = not (is_table ks line)
asks_no_table None ks = false

-- of two lines that must both be tables, the one that decides: the left one if it is no table, else the right one
abbrev pub deciding : List NodeRecord → (left right : ℕ) → ℕ
deciding ks left right = cond (is_table ks left) right left

-- what checking the tables takes: lines that nest, and scratch with a place for each line
pub record OpenLinesPre (ks : List NodeRecord) (scratch : List ℕ) : Type 0 where
  pub lined : Lined ks
  pub nests : Nests ks
  pub capacity : length ks ≤ length scratch

-- the answer, and if it is accepted, that no table is refused
pub record OpenLinesPost (asked : Option ℕ) (ks : List NodeRecord) (r : Result ℕ Refusal) : Type 0 where
  pub answer : r ≡ first_answer Err (Ok (length ks)) (after_reading asked ks)
  pub sound : (n : ℕ) → r ≡ Ok n → AllSound ks

-- a sheet opened: the answer, and if it is accepted, its lines and that no table is refused
pub record OpenSheetPost (asked : Option ℕ) (s : List ℕ) (r : Result ℕ Refusal) (lines : List NodeRecord) : Type 0 where
  pub answer : r ≡ opened_of asked s
  pub holds : (n : ℕ) → r ≡ Ok n → take n lines ≡ nodes_of s
  pub sound : (n : ℕ) → r ≡ Ok n → AllSound (nodes_of s)
