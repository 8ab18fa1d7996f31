-- The call `layout`: its answer, and what stands in the lent buffers afterwards, refused calls included: the figures, then zeros.
use Rattle.answers.specs.Answers.{layout_with}
use Rattle.answers.specs.declared.Layout.{Layout}
use Rattle.common.specs.declared.Refusal.{Refusal}
use Rattle.std.specs.Prelude.{◌≡◌, true, List, [], ◌∷◌, ◌++◌, map, ℕ, length, Err, Result, Ok}
use Rattle.common.specs.Refusals.{Check, first_answer, passes}
use Rattle.arguments.specs.Arguments.{layout_arguments}
use Rattle.grid.specs.Grid.{entries_of}
use Rattle.placement.specs.Promise.{Promised}
use Rattle.sheet_figures.specs.Figures.{x_of, width_of, rows_at, columns_at, boxes_at, way_at, widths_at, width_at, places_at}
use Rattle.sheet_figures.specs.Calls.{asked_checks, leaves}

-- what it refuses, in its order; the lists are the lengths of the lent buffers
abbrev pub layout_checks : List ℕ → ℕ → ℕ → ℕ → ℕ → List ℕ → List ℕ → List Check
layout_checks s line wrap raw width columns entries = layout_arguments wrap raw width columns entries ++ asked_checks s line

unfoldable pub laid_out_of : List ℕ → ℕ → ℕ → ℕ → ℕ → List ℕ → List ℕ → Result Layout Refusal
laid_out_of s line wrap raw width columns entries =
    first_answer Err (Ok (layout_with (way_at s line wrap raw width) (length (entries_of (rows_at s line))) (columns_at s line) (width_at s line wrap raw width)))
    (layout_checks s line wrap raw width columns entries)

-- the lengths of the buffers that are lent for a layout's columns, and for its entries
abbrev pub for_columns : List ℕ → List ℕ
for_columns column = length column ∷ []

abbrev pub for_places : (x wide : List ℕ) → List ℕ
for_places x wide = length x ∷ length wide ∷ []

-- what the three buffers hold afterwards; those with a ₀ are as they were lent. Of these figures the third demand holds, with what holds down the page
pub record LayoutLeft (cs : List Check) (s : List ℕ) (line wrap raw width : ℕ) (column₀ x₀ wide₀ column x wide : List ℕ) : Type 0 where
  pub widths : column ≡ leaves cs column₀ (widths_at s line wrap raw width)
  pub xs : x ≡ leaves cs x₀ (map x_of (places_at s line wrap raw width))
  pub wides : wide ≡ leaves cs wide₀ (map width_of (places_at s line wrap raw width))
  pub promised : passes cs ≡ true → Promised (columns_at s line) (boxes_at s line wrap) raw width (way_at s line wrap raw width) (widths_at s line wrap raw width)

abbrev pub LayoutBuffers : (s : List ℕ) (line wrap raw width : ℕ) (column₀ x₀ wide₀ column x wide : List ℕ) → Type 0
LayoutBuffers s line wrap raw width column₀ x₀ wide₀ column x wide =
    LayoutLeft (layout_checks s line wrap raw width (for_columns column₀) (for_places x₀ wide₀)) s line wrap raw width column₀ x₀ wide₀ column x wide

pub record LayoutAnswer (s : List ℕ) (line wrap raw width : ℕ) (column₀ x₀ wide₀ : List ℕ) (r : Result Layout Refusal) (column x wide : List ℕ) : Type 0 where
  pub answer : r ≡ laid_out_of s line wrap raw width (for_columns column₀) (for_places x₀ wide₀)
  pub left : LayoutBuffers s line wrap raw width column₀ x₀ wide₀ column x wide
