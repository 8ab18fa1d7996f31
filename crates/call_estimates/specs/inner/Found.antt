-- What is found of a sheet's lines, where the checks pass or one of them refuses.
use Rattle.common.specs.declared.Refusal.{Refusal}
use Rattle.std.specs.Prelude.{◌≡◌, true, List, map, ℕ, ◌≤◌, length, take, Err, Ok, Result}
use Rattle.common.specs.Limits.{max_lines}
use Rattle.common.specs.Refusals.{Check, first_answer, passes, if_passes}
use Rattle.text.specs.declared.Estimate.{Estimate}
use Rattle.sheet.specs.Sheet.{sheet_lines}
use Rattle.estimates.specs.Estimates.{estimates}
use Rattle.estimates.specs.Meets.{AllBounded}
use Rattle.sheet_load.specs.Opening.{nodes_of}
use Rattle.sheet_figures.specs.Figures.{line_size, line_least, line_prefix}
use Rattle.sheet_figures.specs.inner.Opened.{lines_in}

-- the lent buffers have the places of a sheet's lines
pub record LinesCapacity (size least prefix : List ℕ) : Type 0 where
  pub size_capacity : max_lines ≤ length size
  pub least_capacity : max_lines ≤ length least
  pub prefix_capacity : max_lines ≤ length prefix

-- there are places for the figures of all lines
pub record WriteFiguresPre (figures : List Estimate) (size least prefix : List ℕ) : Type 0 where
  pub sizes_fit : length figures ≤ length size
  pub leasts_fit : length figures ≤ length least
  pub prefixes_fit : length figures ≤ length prefix

-- they stand in front
pub record WriteFiguresPost (fs : List Estimate) (size least prefix : List ℕ) : Type 0 where
  pub sizes : take (length fs) size ≡ map line_size fs
  pub leasts : take (length fs) least ≡ map line_least fs
  pub prefixes : take (length fs) prefix ≡ map line_prefix fs

-- the estimates, or the first refusal; the figures stand in the first places
pub record EstimatesFound (cs : List Check) (s : List ℕ) (wrap : ℕ) (r : Result ℕ Refusal) (size least prefix : List ℕ) : Type 0 where
  pub answer : r ≡ first_answer Err (Ok (length (sheet_lines s))) cs
  pub few : lines_in r ≤ max_lines
  pub sizes : take (lines_in r) size ≡ if_passes cs (map line_size (estimates wrap (nodes_of s)))
  pub leasts : take (lines_in r) least ≡ if_passes cs (map line_least (estimates wrap (nodes_of s)))
  pub prefixes : take (lines_in r) prefix ≡ if_passes cs (map line_prefix (estimates wrap (nodes_of s)))
  pub sound : passes cs ≡ true → AllBounded (estimates wrap (nodes_of s))
