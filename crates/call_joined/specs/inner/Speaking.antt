-- What the functions that find the text spoken at an entry of the joined grid take and promise.
use Rattle.std.specs.Prelude.{◌≡◌, true, List, map, ℕ, ◌≤◌, length, Option, Result}
use Rattle.common.specs.declared.Refusal.{Refusal}
use Rattle.common.specs.Refusals.{answer_by, passes}
use Rattle.records.specs.declared.NodeRecord.{NodeRecord}
use Rattle.sheet.specs.Sheet.{sheet_checks, sheet_lines}
use Rattle.sheet.specs.Reading.{record_of}
use Rattle.grid.specs.Grid.{entries_of}
use Rattle.owners.specs.Owner.{filler_owner}
use Rattle.joined_tables.specs.Tables as tables
use Rattle.joined_tables.specs.Tables.{both_checks}

-- the line of the cell that an entry continues, by the tables' places, unless 5 or 6 applies
abbrev pub owner_answer : List NodeRecord → (l r e : ℕ) → Result (Option ℕ) Refusal
owner_answer ks l r e = answer_by (filler_owner (entries_of (tables.joined_grid ks l r)) e) (both_checks ks l r)

-- the lines of a sheet that reading accepts, and one of them, or 0
pub record PartOfPre (s : List ℕ) (ks : List NodeRecord) (c : ℕ) : Type 0 where
  pub accepted : passes (sheet_checks s) ≡ true
  pub lines_are : ks ≡ map record_of (sheet_lines s)
  pub within : c ≤ length ks
