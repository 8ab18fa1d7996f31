-- The call `walk`: what it refuses, in its order, its answer, and what stands in the lent buffers afterwards.
use Rattle.common.specs.declared.Refusal.{Refusal}
use Rattle.std.specs.Prelude.{◌≡◌, List, [], ◌∷◌, ◌++◌, map, ℕ, length, Err, Ok, Result}
use Rattle.common.specs.Refusals.{Check, first_answer}
use Rattle.sheet.specs.Sheet.{sheet_checks, sheet_lines}
use Rattle.arguments.specs.Arguments.{walk_arguments}
use Rattle.sheet_load.specs.Opening.{nodes_of}
use Rattle.sheet_figures.specs.Calls.{every_table}
use Rattle.sheet_figures.specs.Calls.{leaves}
use Rattle.available_width.specs.Walk.{narrow_checks, given_number, width_number}
use Rattle.sheet_walk.specs.Sheets.{walk_of}

-- 12 comes after every refusal of the sheet; the last argument has the lengths of the lent buffers
abbrev pub walk_checks : List ℕ → ℕ → ℕ → ℕ → ℕ → List ℕ → List Check
walk_checks s wrap raw width overflow lines =
    walk_arguments wrap raw width overflow lines ++ (sheet_checks s ++ every_table s) ++ narrow_checks wrap raw width overflow (nodes_of s)

unfoldable pub walked_of : List ℕ → ℕ → ℕ → ℕ → ℕ → List ℕ → Result ℕ Refusal
walked_of s wrap raw width overflow lines = first_answer Err (Ok (length (sheet_lines s))) (walk_checks s wrap raw width overflow lines)

-- the lengths of the two buffers
abbrev pub for_walk : (given wide : List ℕ) → List ℕ
for_walk given wide = length given ∷ length wide ∷ []

-- what they hold afterwards; those with a ₀ are as they were lent: whether each line has a width, and which
pub record WalkLeft (s : List ℕ) (wrap raw width overflow : ℕ) (given₀ wide₀ given wide : List ℕ) : Type 0 where
  pub givens : given ≡ leaves (walk_checks s wrap raw width overflow (for_walk given₀ wide₀)) given₀ (map given_number (walk_of s wrap raw width))
  pub wides : wide ≡ leaves (walk_checks s wrap raw width overflow (for_walk given₀ wide₀)) wide₀ (map width_number (walk_of s wrap raw width))

pub record WalkAnswer (s : List ℕ) (wrap raw width overflow : ℕ) (given₀ wide₀ : List ℕ) (r : Result ℕ Refusal) (given wide : List ℕ) : Type 0 where
  pub answer : r ≡ walked_of s wrap raw width overflow (for_walk given₀ wide₀)
  pub left : WalkLeft s wrap raw width overflow given₀ wide₀ given wide
