-- Pointing into the preview of a table that goes sideways, with the calls `at`, `within` and `joining`: what they refuse, in their order, their
-- answers, and what stands in the buffer that `within` is lent.
use Rattle.answers.specs.declared.Under.{Under}
use Rattle.common.specs.declared.Refusal.{Refusal}
use Rattle.std.specs.Prelude.{◌≡◌, List, [], ◌∷◌, ◌++◌, ℕ, ◌+◌, length, Err, Ok, Result}
use Rattle.common.specs.Refusals.{Check, first_answer}
use Rattle.sheet.specs.Sheet.{sheet_checks}
use Rattle.hit_test.specs.Point.{pointed, listed, joined}
use Rattle.answers.specs.declared.Joint.{Joint}
use Rattle.sheet_load.specs.Opening.{nodes_of, line_check}
use Rattle.arguments.specs.Arguments.{pointing_arguments, within_arguments}
use Rattle.sheet_figures.specs.Calls.{every_table}
use Rattle.sheet_figures.specs.Calls.{leaves}
-- the number of a row's first entry, its placed entries, and 10 where there is no such row or the table goes down
pub use Rattle.row_lookup.specs.Rows.{row_start, row_places, late_check}

-- ---- what is refused

-- the arguments are followed by the sheet, the line, every table of the sheet, and then the row
abbrev pub row_checks : List ℕ → ℕ → ℕ → ℕ → ℕ → ℕ → List Check
row_checks s line wrap raw width row =
    sheet_checks s ++ line_check (nodes_of s) line ∷ every_table s ++ late_check s line wrap raw width row ∷ []

-- `at` and `joining`
abbrev pub point_checks : List ℕ → ℕ → ℕ → ℕ → ℕ → ℕ → List Check
point_checks s line wrap raw width row = pointing_arguments wrap raw width ++ row_checks s line wrap raw width row

-- `within`; the last is the length of the lent buffer
abbrev pub within_checks : List ℕ → ℕ → ℕ → ℕ → ℕ → ℕ → List ℕ → List Check
within_checks s line wrap raw width row entries = within_arguments wrap raw width entries ++ row_checks s line wrap raw width row

-- ---- `at`

-- what lies at the column x of the row
unfoldable pub pointed_of : List ℕ → ℕ → ℕ → ℕ → ℕ → ℕ → ℕ → Result (Under ℕ) Refusal
pointed_of s line wrap raw width row x =
    first_answer Err (Ok (pointed (row_start s line row) x (row_places s line wrap raw width row))) (point_checks s line wrap raw width row)

-- ---- `within`

-- the entries of the row that lie in the stretch from a column up to another
abbrev pub listed_at : List ℕ → ℕ → ℕ → ℕ → ℕ → ℕ → ℕ → ℕ → List ℕ
listed_at s line wrap raw width row from to = listed (row_start s line row) from to (row_places s line wrap raw width row)

-- how many they are
unfoldable pub listed_of : List ℕ → ℕ → ℕ → ℕ → ℕ → ℕ → ℕ → ℕ → List ℕ → Result ℕ Refusal
listed_of s line wrap raw width row from to entries =
    first_answer Err (Ok (length (listed_at s line wrap raw width row from to))) (within_checks s line wrap raw width row entries)

-- the length of the lent buffer
abbrev pub for_one : List ℕ → List ℕ
for_one buffer = length buffer ∷ []

-- what it holds afterwards; entry₀ is as it was lent
abbrev pub WithinLeft : List ℕ → ℕ → ℕ → ℕ → ℕ → ℕ → ℕ → ℕ → List ℕ → List ℕ → Type 0
WithinLeft s line wrap raw width row from to entry₀ entry =
    entry ≡ leaves (within_checks s line wrap raw width row (for_one entry₀)) entry₀ (listed_at s line wrap raw width row from to)

pub record WithinAnswer (s : List ℕ) (line wrap raw width row from to : ℕ) (entry₀ : List ℕ) (r : Result ℕ Refusal) (entry : List ℕ) : Type 0 where
  pub answer : r ≡ listed_of s line wrap raw width row from to (for_one entry₀)
  pub left : WithinLeft s line wrap raw width row from to entry₀ entry

-- ---- `joining`

-- the joining character at the column x between the row and the next; below the last row stands no gap
unfoldable pub joined_of : List ℕ → ℕ → ℕ → ℕ → ℕ → ℕ → ℕ → Result Joint Refusal
joined_of s line wrap raw width row x =
    first_answer Err (Ok (joined x (row_places s line wrap raw width row) (row_places s line wrap raw width (row + 1))))
    (point_checks s line wrap raw width row)
