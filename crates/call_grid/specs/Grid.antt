-- The call `grid`: its answer, and what stands in the lent buffers afterwards, refused calls included: the figures, then zeros.
use Rattle.answers.specs.Answers.{grid_with}
use Rattle.answers.specs.declared.Grid.{Grid}
use Rattle.common.specs.declared.Refusal.{Refusal}
use Rattle.std.specs.Prelude.{◌≡◌, List, [], ◌∷◌, ◌++◌, map, ℕ, length, Err, Result, Ok}
use Rattle.common.specs.Refusals.{Check, first_answer}
use Rattle.arguments.specs.Arguments.{grid_arguments}
use Rattle.grid.specs.Grid.{GridRow, shown_line, entries_of, row_ends, first_of, span_of, row_line}
use Rattle.sheet_figures.specs.Figures.{rows_at, columns_at}
use Rattle.sheet_figures.specs.Calls.{asked_checks, leaves}

-- what it refuses, in its order; the lists are the lengths of the lent buffers
abbrev pub grid_checks : List ℕ → ℕ → List ℕ → List ℕ → List Check
grid_checks s line entries rows = grid_arguments entries rows ++ asked_checks s line

unfoldable pub gridded_of : List ℕ → ℕ → List ℕ → List ℕ → Result Grid Refusal
gridded_of s line entries rows =
    first_answer Err (Ok (grid_with (length (rows_at s line)) (length (entries_of (rows_at s line))) (columns_at s line))) (grid_checks s line entries rows)

-- the lengths of the buffers that are lent for a grid's entries, and for its rows
abbrev pub for_entries : (cell first span : List ℕ) → List ℕ
for_entries cell first' span = length cell ∷ length first' ∷ length span ∷ []

abbrev pub for_rows : (row end : List ℕ) → List ℕ
for_rows row end = length row ∷ length end ∷ []

-- what the five buffers hold afterwards of the grid's rows; those with a ₀ are as they were lent
pub record GridLeft (cs : List Check) (g : List GridRow) (cell₀ first₀ span₀ row₀ end₀ cell first span row end : List ℕ) : Type 0 where
  pub cells : cell ≡ leaves cs cell₀ (map shown_line (entries_of g))
  pub firsts : first ≡ leaves cs first₀ (map first_of (entries_of g))
  pub spans : span ≡ leaves cs span₀ (map span_of (entries_of g))
  pub row_lines : row ≡ leaves cs row₀ (map row_line g)
  pub row_ends_are : end ≡ leaves cs end₀ (row_ends 0 g)

abbrev pub GridBuffers : (s : List ℕ) (line : ℕ) (cell₀ first₀ span₀ row₀ end₀ cell first span row end : List ℕ) → Type 0
GridBuffers s line cell₀ first₀ span₀ row₀ end₀ cell first' span row end =
    GridLeft (grid_checks s line (for_entries cell₀ first₀ span₀) (for_rows row₀ end₀)) (rows_at s line) cell₀ first₀ span₀ row₀ end₀ cell first' span row end

pub record GridAnswer (s : List ℕ) (line : ℕ) (cell₀ first₀ span₀ row₀ end₀ : List ℕ) (r : Result Grid Refusal) (cell first span row end : List ℕ) : Type 0 where
  pub answer : r ≡ gridded_of s line (for_entries cell₀ first₀ span₀) (for_rows row₀ end₀)
  pub left : GridBuffers s line cell₀ first₀ span₀ row₀ end₀ cell first span row end
