-- The call `window`: its answer, and what stands in the lent buffers afterwards, refused calls included: a line of the report for each width, then zeros.
use Rattle.common.specs.declared.Refusal.{Refusal}
use Rattle.std.specs.Prelude.{◌≡◌, List, [], ◌∷◌, ◌++◌, map, ℕ, length, Result}
use Rattle.common.specs.Refusals.{Check, answer_by}
use Rattle.answers.specs.Numbers.{way_number}
use Rattle.arguments.specs.Arguments.{window_arguments}
use Rattle.sheet_figures.specs.Figures.{way_at, width_at}
use Rattle.sheet_figures.specs.Calls.{asked_checks, leaves}
use Rattle.causes.specs.Sheets.{missing_at}

-- what it refuses, in its order; the last list has the lengths of the lent buffers
abbrev pub window_checks : List ℕ → ℕ → ℕ → ℕ → List ℕ → List ℕ → List Check
window_checks s line wrap raw widths buffers = window_arguments wrap raw widths buffers ++ asked_checks s line

-- how many lines the report has
unfoldable pub window_of : List ℕ → ℕ → ℕ → ℕ → List ℕ → List ℕ → Result ℕ Refusal
window_of s line wrap raw widths buffers = answer_by (length widths) (window_checks s line wrap raw widths buffers)

-- line i of the report, of the layout at width i of the list: the number of its way, the table's width, how many entries are missing
abbrev pub ways_at : List ℕ → ℕ → ℕ → ℕ → List ℕ → List ℕ
ways_at s line wrap raw widths = map (λ (w : ℕ). way_number (way_at s line wrap raw w)) widths

abbrev pub table_widths_at : List ℕ → ℕ → ℕ → ℕ → List ℕ → List ℕ
table_widths_at s line wrap raw widths = map (λ (w : ℕ). width_at s line wrap raw w) widths

abbrev pub missing_counts_at : List ℕ → ℕ → ℕ → ℕ → List ℕ → List ℕ
missing_counts_at s line wrap raw widths = map (λ (w : ℕ). length (missing_at s line wrap raw w)) widths

-- the lengths of the buffers that are lent for the report
abbrev pub for_report : (way wide missing : List ℕ) → List ℕ
for_report way wide missing = length way ∷ length wide ∷ length missing ∷ []

-- what the three buffers hold afterwards; those with a ₀ are as they were lent
pub record WindowLeft (cs : List Check) (s : List ℕ) (line wrap raw : ℕ) (widths way₀ wide₀ missing₀ way wide missing : List ℕ) : Type 0 where
  pub ways : way ≡ leaves cs way₀ (ways_at s line wrap raw widths)
  pub wides : wide ≡ leaves cs wide₀ (table_widths_at s line wrap raw widths)
  pub missings : missing ≡ leaves cs missing₀ (missing_counts_at s line wrap raw widths)

abbrev pub WindowBuffers : (s : List ℕ) (line wrap raw : ℕ) (widths way₀ wide₀ missing₀ way wide missing : List ℕ) → Type 0
WindowBuffers s line wrap raw widths way₀ wide₀ missing₀ way wide missing =
    WindowLeft (window_checks s line wrap raw widths (for_report way₀ wide₀ missing₀)) s line wrap raw widths way₀ wide₀ missing₀ way wide missing

pub record WindowAnswer (s : List ℕ) (line wrap raw : ℕ) (widths way₀ wide₀ missing₀ : List ℕ) (r : Result ℕ Refusal) (way wide missing : List ℕ) : Type 0 where
  pub answer : r ≡ window_of s line wrap raw widths (for_report way₀ wide₀ missing₀)
  pub left : WindowBuffers s line wrap raw widths way₀ wide₀ missing₀ way wide missing
