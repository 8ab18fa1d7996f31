-- The call `missing`: what it refuses, in its order, its answer, and what stands in the lent buffers afterwards.
use Rattle.answers.specs.Answers.{causes_with}
use Rattle.answers.specs.declared.Causes.{Causes}
use Rattle.common.specs.declared.Refusal.{Refusal}
use Rattle.std.specs.Prelude.{◌≡◌, List, [], ◌∷◌, ◌++◌, ℕ, length, Err, Result, Ok}
use Rattle.common.specs.Refusals.{Check, first_answer}
use Rattle.sheet.specs.Sheet.{sheet_checks}
use Rattle.arguments.specs.Arguments.{missing_arguments}
use Rattle.sheet_load.specs.Opening.{nodes_of, line_check}
use Rattle.sheet_figures.specs.Figures.{columns_at}
use Rattle.sheet_figures.specs.Calls.{every_table}
use Rattle.sheet_figures.specs.Calls.{leaves}
use Rattle.causes.specs.Sheets.{causes_at, missing_at}

-- the last two are the lengths of the buffers that are lent for entries, and for columns
abbrev pub missing_checks : List ℕ → ℕ → ℕ → ℕ → ℕ → List ℕ → List ℕ → List Check
missing_checks s line wrap raw width entries columns =
    missing_arguments wrap raw width entries columns ++ sheet_checks s ++ line_check (nodes_of s) line ∷ every_table s

-- how many entries are missing, and how many columns there are
unfoldable pub explained_of : List ℕ → ℕ → ℕ → ℕ → ℕ → List ℕ → List ℕ → Result Causes Refusal
explained_of s line wrap raw width entries columns =
    first_answer Err (Ok (causes_with (length (missing_at s line wrap raw width)) (columns_at s line))) (missing_checks s line wrap raw width entries columns)

-- the length of the buffer that is lent for entries or for columns
abbrev pub for_one : List ℕ → List ℕ
for_one buffer = length buffer ∷ []

-- what the two buffers hold afterwards; those with a ₀ are as they were lent
pub record MissingLeft (s : List ℕ) (line wrap raw width : ℕ) (entry₀ cause₀ entry cause : List ℕ) : Type 0 where
  pub entries : entry ≡ leaves (missing_checks s line wrap raw width (for_one entry₀) (for_one cause₀)) entry₀ (missing_at s line wrap raw width)
  pub causes : cause ≡ leaves (missing_checks s line wrap raw width (for_one entry₀) (for_one cause₀)) cause₀ (causes_at s line wrap raw width)

pub record MissingAnswer (s : List ℕ) (line wrap raw width : ℕ) (entry₀ cause₀ : List ℕ) (r : Result Causes Refusal) (entry cause : List ℕ) : Type 0 where
  pub answer : r ≡ explained_of s line wrap raw width (for_one entry₀) (for_one cause₀)
  pub left : MissingLeft s line wrap raw width entry₀ cause₀ entry cause
