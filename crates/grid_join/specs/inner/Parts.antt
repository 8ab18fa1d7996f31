-- What the code that joins grids asks of its slices, and what it leaves in them.
use Rattle.std.specs.Prelude.{◌≡◌, Bool, cond, List, [], ◌∷◌, ◌++◌, map, ℕ, ◌+◌, ◌-◌, ◌≤◌, max, ltb, length, take}
use Rattle.common.specs.Lists.{All}
use Rattle.common.specs.Limits.{max_position, max_entries, max_lines}
use Rattle.records.specs.declared.Entry as records
use Rattle.records.specs.declared.RowEnd.{RowEnd}
use Rattle.grid.specs.Grid.{Entry, GridRow, entries_of}
use Rattle.grid.specs.Judging.{shown}
use Rattle.grid_build.specs.inner.Records.{ended_rows}
use Rattle.grid_join.specs.Joined.{empty_entries, moved, end_from, joined}
use Rattle.grid_join.specs.inner.Reading.{row_in, Ends, Narrow}

-- these entries are written after the first n: m stand there then
pub record Appended (n m : ℕ) (new : List Entry) (es₀ es : List records.Entry) : Type 0 where
  pub count : m ≡ n + length new
  pub written : take m es ≡ take n es₀ ++ map shown new

-- a row, and places for what is made of it after n entries
pub record RowReady (n : ℕ) (new : List Entry) (row es : List records.Entry) : Type 0 where
  pub narrow : All Narrow row
  pub capacity : n + length new ≤ length es

-- the right part of a row: the row that is there, or an empty entry
abbrev pub right_in : (c d : ℕ) → Bool → List records.Entry → List Entry
right_in c d there row = cond there (map (moved c) (row_in row)) (empty_entries c (c + d))

-- a left row and a right row, and places for both
pub record PutBothPre (n : ℕ) (new : List Entry) (left right es : List records.Entry) : Type 0 where
  pub left_narrow : All Narrow left
  pub right_narrow : All Narrow right
  pub capacity : n + length new ≤ length es

-- ---- how many entries there are

-- how many left rows are short
unfoldable pub shorts : ℕ → List GridRow → ℕ
shorts c [] = 0
shorts c (l ∷ ls) = length (empty_entries (end_from 0 l.entries) c) + shorts c ls

-- how many empty entries are put in
abbrev pub empties : (c d : ℕ) → List GridRow → List GridRow → ℕ
empties c d ls rs = shorts c ls + cond (ltb 0 c) (length rs - length ls) 0 + cond (ltb 0 d) (length ls - length rs) 0

-- ---- a grid by its records

-- records that a grid can have
pub record Readable (es : List records.Entry) (rs : List RowEnd) : Type 0 where
  pub ends : Ends 0 rs (length es)
  pub narrow : All Narrow es
  pub few_entries : length es ≤ max_entries
  pub few_rows : length rs ≤ max_lines

-- places for all rows and entries of the joined grid
pub record JoinRowsPre (c d : ℕ) (ls rs : List GridRow) (es : List records.Entry) (ks : List RowEnd) : Type 0 where
  pub columns : c + d ≤ max_position
  pub few : length (entries_of (joined c d ls rs)) ≤ max_entries
  pub entry_capacity : length (entries_of (joined c d ls rs)) ≤ length es
  pub row_capacity : max (length ls) (length rs) ≤ length ks

-- a grid stands in the first records
pub record Stands (g : List GridRow) (es : List records.Entry) (ks : List RowEnd) : Type 0 where
  pub entries : take (length (entries_of g)) es ≡ map shown (entries_of g)
  pub rows : take (length g) ks ≡ ended_rows 0 g
