-- What the code that raises and lays out columns asks of its slices, and what it leaves in them.
use Rattle.std.specs.Prelude.{◌≡◌, List, map, ℕ, ◌+◌, ◌≤◌, ◌<◌, length, get_or}
use Rattle.common.specs.Lists.{All}
use Rattle.text.specs.declared.Estimate.{Estimate}
use Rattle.records.specs.inner.NodeRecord.{no_entry}
use Rattle.records.specs.declared.Entry.{Entry}
use Rattle.columns.specs.Boxes.{Box}
use Rattle.column_sizes.specs.inner.Sizing.{entry_box, sizes_in, leasts_in}

-- a box has a column, ends within n columns, and is no wider at the least than in full
pub record Whole (n : ℕ) (b : Box) : Type 0 where
  pub some : 1 ≤ b.span
  pub ends : b.first + b.span ≤ n
  pub low : b.least ≤ b.size

-- entries whose figures are there, each whole in n columns
pub record Entered (es : List Entry) (figures : List Estimate) (n : ℕ) : Type 0 where
  pub within : (i : ℕ) → i < length es → (get_or es i no_entry).cell ≤ length figures
  pub whole : All (Whole n) (map (entry_box figures) es)

-- and as many places for the columns' leasts as for their sizes
pub record RaiseColumnsPre (es : List Entry) (figures : List Estimate) (sizes leasts : List ℕ) : Type 0 where
  pub entered : Entered es figures (length sizes)
  pub leasts_length : length leasts ≡ length sizes

-- the sizes and leasts of c columns
pub record RaiseColumnsPost (es : List Entry) (figures : List Estimate) (c : ℕ) (sizes leasts : List ℕ) : Type 0 where
  pub sizes_are : sizes ≡ sizes_in es figures c
  pub leasts_are : leasts ≡ leasts_in es figures c
