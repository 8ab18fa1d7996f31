-- A table's columns with their figures, and the causes that follow, in lent slices.
use Rattle.std.specs.Prelude.{◌≡◌, List, ℕ, ◌≤◌, length}
use Rattle.common.specs.Limits.{max_position}
use Rattle.text.specs.declared.Estimate.{Estimate}
use Rattle.records.specs.declared.Entry.{Entry}
use Rattle.cutting.specs.Cut.{at}
use Rattle.widths.specs.Share as widths
use Rattle.widths.specs.inner.Lay.{LayColumnsPost}
use Rattle.widths.specs.declared.Laid.{Laid}
use Rattle.column_sizes.specs.inner.Sizing.{sizes_in, leasts_in}
use Rattle.column_sizes.specs.inner.Capacity.{Entered}
use Rattle.causes.specs.Causes.{cause_of, cause_number}

-- entries that are whole in so many columns, and as many places for each figure of a column
pub record TellColumnsPre (es : List Entry) (figures : List Estimate) (sizes leasts shares column : List ℕ) : Type 0 where
  pub entered : Entered es figures (length column)
  pub few : length column ≤ max_position
  pub sizes_length : length sizes ≡ length column
  pub leasts_length : length leasts ≡ length column
  pub shares_length : length shares ≡ length column

-- the figures of c columns: sizes, leasts, shares and final widths
pub record TellColumnsPost (es : List Entry) (figures : List Estimate) (c raw width : ℕ) (sizes leasts shares column : List ℕ) (r : Laid) : Type 0 where
  pub sizes_are : sizes ≡ sizes_in es figures c
  pub leasts_are : leasts ≡ leasts_in es figures c
  pub shares_are : shares ≡ widths.shares (sizes_in es figures c) (leasts_in es figures c) width
  pub laid : LayColumnsPost (sizes_in es figures c) (leasts_in es figures c) raw width column r

-- a size, a share, a final width and a place for the cause of each column
pub record WriteCausesPre (sizes shares column cause : List ℕ) : Type 0 where
  pub shares_length : length shares ≡ length sizes
  pub column_length : length column ≡ length sizes
  pub cause_length : length cause ≡ length sizes

-- the number of the cause of column j, where the columns have these sizes, shares and final widths
abbrev pub number_at : (width : ℕ) (sizes shares column : List ℕ) → ℕ → ℕ
number_at width sizes shares column j = cause_number (cause_of width (at sizes j) (at shares j) (at column j))
