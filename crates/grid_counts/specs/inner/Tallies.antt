-- What is counted of a row and of a body.
use Rattle.std.specs.Prelude.{◌≡◌, true, false, cond, List, map, ℕ, suc, ◌+◌, ◌-◌, ◌*◌, ◌≤◌, ◌<◌, min, eqb, length, get_or, Result, Ok, Err}
use Rattle.common.specs.Lists.{sum}
use Rattle.common.specs.Limits.{max_lines, max_depth, max_cols, max_position, max_entries}
use Rattle.common.specs.declared.Reason.{Reason}
use Rattle.common.specs.declared.Reason.TheVariants.{RowEnd}
use Rattle.records.specs.NodeRecord.{no_node}
use Rattle.records.specs.declared.NodeRecord.{NodeRecord}
use Rattle.resolved_rows.specs.Cells.{Cell, Row, row_sum, widest, resolve_cell, hangs, cut_cell, resolve_body}
use Rattle.resolved_rows.specs.inner.Listed.{cell_cols}
use Rattle.grid_row.specs.Row.{Item, item_of}
use Rattle.grid_positions.specs.Positions.{all_rows, ends_past, entry_count}
use Rattle.grid_counts.specs.declared.Tally.{Tally}

-- entries are counted up to one more than a table may have
abbrev pub many_entries : ℕ
many_entries = suc max_entries

-- lines of a sheet, and the depth of one of its tables
pub record Lines (ks : List NodeRecord) (d : ℕ) : Type 0 where
  pub short : length ks ≤ max_lines
  pub shallow : d ≤ max_depth
  pub narrow : (k : ℕ) → (get_or ks k no_node).cols ≤ max_cols

pub record RowSumPost (cs : List Cell) (r : ℕ) : Type 0 where
  pub is : r ≡ row_sum cs
  pub small : r ≤ max_lines * max_cols

-- a body's rows, their largest sum, and a clear place for each row
pub record SurveyPost (rs : List Row) (rows most : ℕ) (ends : List ℕ) : Type 0 where
  pub rows_are : rows ≡ length rs
  pub few : rows ≤ max_lines
  pub capacity : rows ≤ length ends
  pub widest_is : most ≡ widest rs
  pub small : most ≤ max_lines * max_cols
  pub clear : (k : ℕ) → k < rows → get_or ends k 0 ≡ 0

-- ---- a row

pub record Filled (cols instead r : ℕ) : Type 0 where
  pub is : r ≡ cond (eqb cols 0) instead cols
  pub small : r ≤ instead + cols

pub record HangsWithinPost (left rows r : ℕ) : Type 0 where
  pub is : r ≡ hangs left rows
  pub small : r ≤ left

-- the cells of a row, resolved: `left` rows follow it in its body
abbrev pub ready : ℕ → ℕ → List Cell → List Cell
ready instead left cs = map (cut_cell left) (map (resolve_cell instead) cs)

abbrev pub cols_sum : List Cell → ℕ
cols_sum cs = sum (map cell_cols cs)

-- the rows that they take
abbrev pub rows_taken : List Cell → ℕ
rows_taken cs = sum (map (λ c. suc (c.rows - 1)) cs)

-- how wide those are that hang into k rows more
abbrev pub wides_of : ℕ → List Item → ℕ
wides_of k xs = sum (map (λ x. cond (eqb (x.left - 1) k) x.span 0) xs)

-- what counting a row takes: `reach` hang into it, and place k of the slice tells how much of it hangs into k rows more
pub record CountRowPre (ks : List NodeRecord) (d instead left reach entries : ℕ) (ends : List ℕ) : Type 0 where
  pub lines : Lines ks d
  pub small : instead ≤ max_lines * max_cols + 1
  pub few_left : left < max_lines
  pub capacity : left < length ends
  pub within : reach ≤ max_position
  pub few : entries ≤ many_entries
  pub ends_small : (k : ℕ) → k ≤ left → get_or ends k 0 ≤ reach

pub record RowDone (cs : List Cell) (left reach entries : ℕ) (ends₀ ends : List ℕ) (reach' entries' : ℕ) : Type 0 where
  pub reach_is : reach' ≡ reach + cols_sum cs
  pub within : reach' ≤ max_position
  pub entries_are : entries' ≡ min (entries + rows_taken cs) many_entries
  pub ends_are : (k : ℕ) → k ≤ left → get_or ends k 0 ≡ get_or ends₀ k 0 + wides_of k (map item_of cs)

pub record CountRowPost (cs : List Cell) (left reach entries : ℕ) (ends₀ ends : List ℕ) (r : Result Tally Reason) : Type 0 where
  pub past : (why : Reason) → r ≡ Err why → (why ≡ RowEnd) × (max_position < reach + cols_sum cs)
  pub counted : (t : Tally) → r ≡ Ok t → RowDone cs left reach entries ends₀ ends t.reach t.entries

-- ---- a body

pub record BodyReady (ks : List NodeRecord) (d entries : ℕ) (ends : List ℕ) : Type 0 where
  pub lines : Lines ks d
  pub capacity : length ks ≤ length ends
  pub few : entries ≤ many_entries

pub record BodyDone (b : List Row) (entries e : ℕ) : Type 0 where
  pub within : ends_past (all_rows (resolve_body b)) ≡ false
  pub entries_are : e ≡ min (entries + entry_count (all_rows (resolve_body b))) many_entries

pub record CountBodyPost (b : List Row) (entries : ℕ) (r : Result ℕ Reason) : Type 0 where
  pub past : (why : Reason) → r ≡ Err why → (why ≡ RowEnd) × (ends_past (all_rows (resolve_body b)) ≡ true)
  pub counted : (e : ℕ) → r ≡ Ok e → BodyDone b entries e
