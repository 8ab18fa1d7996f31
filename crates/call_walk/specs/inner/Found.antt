-- What is found in a sheet that is walked, by its bytes.
use Rattle.common.specs.declared.Refusal.{Refusal}
use Rattle.std.specs.Prelude.{◌≡◌, List, map, ℕ, ◌≤◌, length, take, Err, Ok, Result, Option}
use Rattle.common.specs.Limits.{max_lines}
use Rattle.common.specs.Refusals.{Check, first_answer, if_passes}
use Rattle.sheet.specs.Sheet.{sheet_lines}
use Rattle.available_width.specs.Walk.{given_number, width_number}
use Rattle.sheet_figures.specs.inner.Opened.{lines_in}
use Rattle.sheet_walk.specs.Sheets.{walk_of}

-- the lent buffers have the places of a sheet's lines
pub record WalkCapacity (given wide : List ℕ) : Type 0 where
  pub given_capacity : max_lines ≤ length given
  pub wide_capacity : max_lines ≤ length wide

-- the two numbers of each width stand in front
pub record WriteWidthsPost (ps : List (Option ℕ)) (given wide : List ℕ) : Type 0 where
  pub givens : take (length ps) given ≡ map given_number ps
  pub wides : take (length ps) wide ≡ map width_number ps

-- the walk found in the sheet, or the first refusal; the figures stand in the first places
pub record WalkFound (cs : List Check) (s : List ℕ) (wrap raw width : ℕ) (r : Result ℕ Refusal) (given wide : List ℕ) : Type 0 where
  pub answer : r ≡ first_answer Err (Ok (length (sheet_lines s))) cs
  pub few : lines_in r ≤ max_lines
  pub givens : take (lines_in r) given ≡ if_passes cs (map given_number (walk_of s wrap raw width))
  pub wides : take (lines_in r) wide ≡ if_passes cs (map width_number (walk_of s wrap raw width))
