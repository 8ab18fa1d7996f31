-- The call `estimates`: its answer, and what stands in the lent buffers afterwards, refused calls included: the figures, then zeros.
use Rattle.common.specs.declared.Refusal.{Refusal}
use Rattle.std.specs.Prelude.{◌≡◌, true, List, [], ◌∷◌, ◌++◌, map, ℕ, length, Err, Ok, Result}
use Rattle.common.specs.Refusals.{Check, first_answer, passes}
use Rattle.arguments.specs.Arguments.{estimates_arguments}
use Rattle.text.specs.declared.Estimate.{Estimate}
use Rattle.sheet.specs.Sheet.{sheet_lines}
use Rattle.estimates.specs.Estimates.{estimates}
use Rattle.estimates.specs.Meets.{AllBounded}
use Rattle.sheet_load.specs.Opening.{nodes_of}
use Rattle.sheet_figures.specs.Figures.{line_size, line_least, line_prefix}
use Rattle.sheet_figures.specs.Calls.{check_checks, leaves}

-- what it refuses, in its order; the last are the lengths of the lent buffers
abbrev pub estimates_checks : List ℕ → ℕ → List ℕ → List Check
estimates_checks s wrap lines = estimates_arguments wrap lines ++ check_checks s

unfoldable pub estimated_of : List ℕ → ℕ → List ℕ → Result ℕ Refusal
estimated_of s wrap lines = first_answer Err (Ok (length (sheet_lines s))) (estimates_checks s wrap lines)

-- the lengths of the buffers that are lent for lines
abbrev pub for_lines : (size least prefix : List ℕ) → List ℕ
for_lines size least prefix = length size ∷ length least ∷ length prefix ∷ []

-- what the three buffers hold afterwards of the lines' figures; those with a ₀ are as they were lent. No size passes 33,554,432, and no least its size
pub record EstimatesLeft (cs : List Check) (figures : List Estimate) (size₀ least₀ prefix₀ size least prefix : List ℕ) : Type 0 where
  pub sizes : size ≡ leaves cs size₀ (map line_size figures)
  pub leasts : least ≡ leaves cs least₀ (map line_least figures)
  pub prefixes : prefix ≡ leaves cs prefix₀ (map line_prefix figures)
  pub sound : passes cs ≡ true → AllBounded figures

abbrev pub EstimatesBuffers : (s : List ℕ) (wrap : ℕ) (size₀ least₀ prefix₀ size least prefix : List ℕ) → Type 0
EstimatesBuffers s wrap size₀ least₀ prefix₀ size least prefix =
    EstimatesLeft (estimates_checks s wrap (for_lines size₀ least₀ prefix₀)) (estimates wrap (nodes_of s)) size₀ least₀ prefix₀ size least prefix

pub record EstimatesAnswer (s : List ℕ) (wrap : ℕ) (size₀ least₀ prefix₀ : List ℕ) (r : Result ℕ Refusal) (size least prefix : List ℕ) : Type 0 where
  pub answer : r ≡ estimated_of s wrap (for_lines size₀ least₀ prefix₀)
  pub left : EstimatesBuffers s wrap size₀ least₀ prefix₀ size least prefix
