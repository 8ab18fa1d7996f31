-- The causes of the columns of the table in a line of a sheet, and its missing entries, by the sheet's bytes, the line and the settings.
use Rattle.std.specs.Prelude.{List, ℕ}
use Rattle.sheet_figures.specs.Figures.{sizes_at, leasts_at, widths_at, places_at}
use Rattle.causes.specs.Causes.{causes, missing_from}

-- the number of each column's cause
abbrev pub causes_at : List ℕ → ℕ → ℕ → ℕ → ℕ → List ℕ
causes_at s line wrap raw width = causes (sizes_at s line wrap) (leasts_at s line wrap) (widths_at s line wrap raw width) width

-- the numbers of the missing entries, in the order of the grid
abbrev pub missing_at : List ℕ → ℕ → ℕ → ℕ → ℕ → List ℕ
missing_at s line wrap raw width = missing_from 0 (places_at s line wrap raw width)
