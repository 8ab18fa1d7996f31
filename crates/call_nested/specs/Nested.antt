-- The call `nested`: what it refuses, in its order, its answer, and what stands in the lent buffers afterwards.
use Rattle.answers.specs.Answers.{layout_with, nested_with}
use Rattle.answers.specs.declared.Nested.{Nested}
use Rattle.common.specs.declared.Refusal.{Refusal}
use Rattle.std.specs.Prelude.{◌≡◌, true, List, [], ◌∷◌, ◌++◌, map, ℕ, ◌-◌, length, get_or, Err, Ok, Option, Result, None, Some}
use Rattle.common.specs.Refusals.{Check, first_answer, passes}
use Rattle.sheet.specs.Sheet.{sheet_checks}
use Rattle.arguments.specs.Arguments.{nested_arguments}
use Rattle.sheet_load.specs.Opening.{nodes_of, line_check}
use Rattle.grid.specs.Grid.{entries_of}
use Rattle.placement.specs.Promise.{Promised}
use Rattle.sheet_figures.specs.Figures.{x_of, width_of, rows_at, columns_at, boxes_at, way_at, widths_at, width_at, places_at}
use Rattle.sheet_figures.specs.Calls.{every_table, leaves}
use Rattle.call_layout.specs.Layout.{for_columns, for_places}
use Rattle.available_width.specs.Walk.{narrow_checks}
use Rattle.sheet_walk.specs.Sheets.{walk_of}

abbrev pub nested_checks : List ℕ → ℕ → ℕ → ℕ → ℕ → ℕ → List ℕ → List ℕ → List Check
nested_checks s line wrap raw width overflow columns entries =
    nested_arguments wrap raw width overflow columns entries
    ++ (sheet_checks s ++ line_check (nodes_of s) line ∷ every_table s) ++ narrow_checks wrap raw width overflow (nodes_of s)

-- the width that the walk gives the table in a line
abbrev pub width_to : List ℕ → ℕ → ℕ → ℕ → ℕ → Option ℕ
width_to s line wrap raw width = get_or (walk_of s wrap raw width) (line - 1) None

-- the table laid out at that width; without one nothing is
unfoldable pub answer_at : List ℕ → ℕ → ℕ → ℕ → Option ℕ → Result (Option Nested) Refusal
answer_at s line wrap raw None = Ok None
answer_at s line wrap raw (Some v) = Ok (Some (nested_with v (layout_with (way_at s line wrap raw v) (length (entries_of (rows_at s line))) (columns_at s line) (width_at s line wrap raw v))))

unfoldable pub columns_for : List ℕ → ℕ → ℕ → ℕ → Option ℕ → List ℕ
columns_for s line wrap raw None = []
columns_for s line wrap raw (Some v) = widths_at s line wrap raw v

unfoldable pub xs_for : List ℕ → ℕ → ℕ → ℕ → Option ℕ → List ℕ
xs_for s line wrap raw None = []
xs_for s line wrap raw (Some v) = map x_of (places_at s line wrap raw v)

unfoldable pub wides_for : List ℕ → ℕ → ℕ → ℕ → Option ℕ → List ℕ
wides_for s line wrap raw None = []
wides_for s line wrap raw (Some v) = map width_of (places_at s line wrap raw v)

unfoldable pub nested_of : List ℕ → ℕ → ℕ → ℕ → ℕ → ℕ → List ℕ → List ℕ → Result (Option Nested) Refusal
nested_of s line wrap raw width overflow columns entries =
    first_answer Err (answer_at s line wrap raw (width_to s line wrap raw width)) (nested_checks s line wrap raw width overflow columns entries)

-- what the three buffers hold afterwards, and of these figures the third demand, with what holds down the page, at the width that the walk gives
pub record NestedLeft (s : List ℕ) (line wrap raw width overflow : ℕ) (column₀ x₀ wide₀ column x wide : List ℕ) : Type 0 where
  pub widths : column ≡ leaves (nested_checks s line wrap raw width overflow (for_columns column₀) (for_places x₀ wide₀)) column₀ (columns_for s line wrap raw (width_to s line wrap raw width))
  pub xs : x ≡ leaves (nested_checks s line wrap raw width overflow (for_columns column₀) (for_places x₀ wide₀)) x₀ (xs_for s line wrap raw (width_to s line wrap raw width))
  pub wides : wide ≡ leaves (nested_checks s line wrap raw width overflow (for_columns column₀) (for_places x₀ wide₀)) wide₀ (wides_for s line wrap raw (width_to s line wrap raw width))
  pub promised : passes (nested_checks s line wrap raw width overflow (for_columns column₀) (for_places x₀ wide₀)) ≡ true → (v : ℕ) → width_to s line wrap raw width ≡ Some v →
      Promised (columns_at s line) (boxes_at s line wrap) raw v (way_at s line wrap raw v) (widths_at s line wrap raw v)

pub record NestedAnswer (s : List ℕ) (line wrap raw width overflow : ℕ) (column₀ x₀ wide₀ : List ℕ) (r : Result (Option Nested) Refusal) (column x wide : List ℕ) : Type 0 where
  pub answer : r ≡ nested_of s line wrap raw width overflow (for_columns column₀) (for_places x₀ wide₀)
  pub left : NestedLeft s line wrap raw width overflow column₀ x₀ wide₀ column x wide
