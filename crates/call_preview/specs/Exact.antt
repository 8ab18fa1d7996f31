-- What is promised of the calls that point into the preview, over the placed entries of a row and not over a search: of every row of every table that
-- goes sideways, in every accepted sheet, at every setting in its range. These are statements; proofs/Exact.antt has their proofs, under the same
-- names.
use Rattle.std.specs.Prelude.{◌≡◌, List, ℕ, ◌+◌, ◌≤◌, ◌<◌, length, Ok}
use Rattle.common.specs.Lists.{padded}
use Rattle.common.specs.Limits.{max_wrap, max_width, max_entries}
use Rattle.common.specs.Refusals.{verdict_of}
use Rattle.answers.specs.declared.Way.TheVariants.{Sideways}
use Rattle.hit_test.specs.Exact.{Exactly, ListsExactly, Joins}
use Rattle.answers.specs.declared.Under.{Under}
use Rattle.answers.specs.declared.Joint.{Joint}
use Rattle.sheet_figures.specs.Figures.{rows_at, way_at}
use Rattle.sheet_figures.specs.Calls.{leaves}
use Rattle.missing_theorems.specs.Missing.{TableIn}
use Rattle.call_preview.specs.Preview.{row_start, row_places, point_checks, within_checks, pointed_of, listed_at, listed_of, for_one, joined_of}

-- a row of a table that goes sideways: of a line of an accepted sheet that is a table, with settings in their ranges
pub record RowIn (s : List ℕ) (line wrap raw width row : ℕ) : Type 0 where
  pub table : TableIn s line
  pub wrap_small : wrap ≤ max_wrap
  pub raw_small : raw ≤ 1
  pub width_small : width ≤ max_width
  pub sideways : way_at s line wrap raw width ≡ Sideways
  pub there : row < length (rows_at s line)

-- `at` and `joining` are accepted exactly for such a row
pub record Accepts (s : List ℕ) (line wrap raw width row : ℕ) : Type 0 where
  pub only : verdict_of (point_checks s line wrap raw width row) ≡ (Ok tt) → RowIn s line wrap raw width row
  pub then : RowIn s line wrap raw width row → verdict_of (point_checks s line wrap raw width row) ≡ (Ok tt)

abbrev pub RowsAccepted : Type 0
RowsAccepted = (s : List ℕ) (line wrap raw width row : ℕ) → Accepts s line wrap raw width row

-- `at`: a cell exactly if it is printed and covers x, a gap exactly if x lies between two printed cells, and nothing exactly if neither is there
pub record AtRight (s : List ℕ) (line wrap raw width row x : ℕ) : Type 0 where
  pub under : Under ℕ
  pub answer : pointed_of s line wrap raw width row x ≡ Ok under
  pub right : Exactly (row_start s line row) (row_places s line wrap raw width row) x under

abbrev pub AtExactly : Type 0
AtExactly = (s : List ℕ) (line wrap raw width row x : ℕ) → RowIn s line wrap raw width row → AtRight s line wrap raw width row x

-- `within`: exactly the printed cells that lie in the stretch, left to right, in the front of a buffer that is long enough
pub record WithinRight (s : List ℕ) (line wrap raw width row from to : ℕ) (entry : List ℕ) : Type 0 where
  pub answer : listed_of s line wrap raw width row from to (for_one entry) ≡ Ok (length (listed_at s line wrap raw width row from to))
  pub left : leaves (within_checks s line wrap raw width row (for_one entry)) entry (listed_at s line wrap raw width row from to)
      ≡ padded (length entry) (listed_at s line wrap raw width row from to)
  pub right : ListsExactly (row_start s line row) from to (row_places s line wrap raw width row) (listed_at s line wrap raw width row from to)

abbrev pub WithinExactly : Type 0
WithinExactly = (s : List ℕ) (line wrap raw width row from to : ℕ) (entry : List ℕ) → RowIn s line wrap raw width row → max_entries ≤ length entry →
    WithinRight s line wrap raw width row from to entry

-- `joining`: as gaps stand above and below; below the last row stands none
pub record JoiningRight (s : List ℕ) (line wrap raw width row x : ℕ) : Type 0 where
  pub joint : Joint
  pub answer : joined_of s line wrap raw width row x ≡ Ok joint
  pub right : Joins (row_places s line wrap raw width row) (row_places s line wrap raw width (row + 1)) x joint

abbrev pub JoiningExactly : Type 0
JoiningExactly = (s : List ℕ) (line wrap raw width row x : ℕ) → RowIn s line wrap raw width row → JoiningRight s line wrap raw width row x
