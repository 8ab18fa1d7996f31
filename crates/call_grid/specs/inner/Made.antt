-- The records of a grid as the call answers them.
use Rattle.answers.specs.Answers.{grid_with}
use Rattle.answers.specs.declared.Grid.{Grid}
use Rattle.std.specs.Prelude.{◌≡◌, List, map, ℕ, ◌≤◌, length, take}
use Rattle.records.specs.declared.Entry.{Entry}
use Rattle.records.specs.declared.RowEnd.{RowEnd}
use Rattle.records.specs.inner.Figures.{entry_cell, entry_first, entry_span, row_line, row_end}

-- how many there are
abbrev pub answer_of : List Entry → List RowEnd → ℕ → Grid
answer_of es rs columns = grid_with (length rs) (length es) columns

-- there are places for them
pub record WriteGridPre (es : List Entry) (rs : List RowEnd) (cell first' span row end : List ℕ) : Type 0 where
  pub cells_fit : length es ≤ length cell
  pub firsts_fit : length es ≤ length first'
  pub spans_fit : length es ≤ length span
  pub rows_fit : length rs ≤ length row
  pub ends_fit : length rs ≤ length end

-- they stand in front
pub record WriteGridPost (es : List Entry) (rs : List RowEnd) (cell first' span row end : List ℕ) : Type 0 where
  pub cells : take (length es) cell ≡ map entry_cell es
  pub firsts : take (length es) first' ≡ map entry_first es
  pub spans : take (length es) span ≡ map entry_span es
  pub row_lines : take (length rs) row ≡ map row_line rs
  pub row_ends_are : take (length rs) end ≡ map row_end rs
