-- What reading a sheet takes and promises.
use Rattle.std.specs.Prelude.{◌≡◌, List, map, ℕ, length, take, Ok, Result}
use Rattle.common.specs.Refusals.{answer_by}
use Rattle.common.specs.declared.Refusal.{Refusal}
use Rattle.records.specs.declared.NodeRecord.{NodeRecord}
use Rattle.sheet.specs.Sheet.{sheet_checks, sheet_lines}
use Rattle.sheet.specs.Reading.{record_of}

-- the number of lines, or the first refusal that applies
unfoldable pub reading_of : List ℕ → Result ℕ Refusal
reading_of s = answer_by (length (sheet_lines s)) (sheet_checks s)

-- what the reader does with a sheet: its answer, and if it accepts, what the slice holds then
pub record Reads (s : List ℕ) (r : Result ℕ Refusal) (lines : List NodeRecord) : Type 0 where
  pub answer : r ≡ reading_of s
  pub stored : (n : ℕ) → r ≡ Ok n → take n lines ≡ map record_of (sheet_lines s)
