-- A table and its rows by positions as number slices, and what the answers and the written slices are.
use Rattle.std.specs.Prelude.{◌≡◌, false, List, [], ◌∷◌, ◌++◌, map, ℕ, ◌+◌, ◌-◌, ◌≤◌, length, get_or, take, drop}
use Rattle.common.specs.inner.Lists.{over}
use Rattle.common.specs.Limits.{max_lines, max_position, max_entries}
use Rattle.resolved_rows.specs.Cells.{Cell, cell}
use Rattle.resolved_rows.specs.Cells as cells
use Rattle.resolved_rows.specs.inner.Spans.{part}
use Rattle.grid_row.specs.Row.{Item, item_span, items_end, nexts}
use Rattle.grid_row.specs.inner.Row.{item_line, item_left, item_pos, row_of}
use Rattle.grid_positions.specs.declared.Positions.{Positions}
use Rattle.grid_positions.specs.Positions.{PositionRow, all_rows, ends_past, entry_count}

-- ---- the table

-- cells of their lines, cols and rows
unfoldable pub cells_in : List ℕ → List ℕ → List ℕ → List Cell
cells_in [] spans rows = []
cells_in (l ∷ lines) spans rows = cell l (get_or spans 0 0) (get_or rows 0 0) ∷ cells_in lines (drop 1 spans) (drop 1 rows)

-- the rows whose cells end at the given places; the first one's begin at place a
unfoldable pub table_of : List ℕ → List ℕ → List ℕ → List ℕ → ℕ → List ℕ → List cells.Row
table_of lines spans rows row_lines a [] = []
table_of lines spans rows row_lines a (e ∷ ends) =
    cells.row (get_or row_lines 0 0) (cells_in (part a e lines) (part a e spans) (part a e rows)) ∷ table_of lines spans rows (drop 1 row_lines) e ends

-- no row's cells end before they begin, and all end within m
abbrev pub Rising : ℕ → List ℕ → ℕ → Type 0
Rising a [] m = a ≤ m
Rising a (e ∷ ends) m = (a ≤ e) × (e ≤ m) × Rising e ends m

-- ---- rows by positions

abbrev pub placed_line : PositionRow → ℕ
placed_line r = r.line

-- the entries of all rows, one after the other
unfoldable pub all_items : List PositionRow → List Item
all_items [] = []
all_items (r ∷ rs) = r.items ++ all_items rs

-- for each row the number of entries up to and including it; n stand before
unfoldable pub entry_ends : ℕ → List PositionRow → List ℕ
entry_ends n [] = []
entry_ends n (r ∷ rs) = (n + length r.items) ∷ entry_ends (n + length r.items) rs

-- a list written over a buffer from place n on
abbrev pub over_at : ℕ → List ℕ → List ℕ → List ℕ
over_at n xs o = over (take n o ++ xs) o

-- ---- one row

-- the row of the cells from place a up to place e, with the first k that hang
unfoldable pub row_at : List ℕ → List ℕ → List ℕ → ℕ → ℕ → List ℕ → List ℕ → List ℕ → ℕ → List Item
row_at lines spans rows a e left at wide k = row_of (part a e lines) (part a e spans) (part a e rows) (take k left) (take k at) (take k wide)

-- the entries xs written from place n on, and what hangs on
pub record WrittenAt (n : ℕ) (xs : List Item) (l₀ s₀ nl₀ na₀ nw₀ l s nl na nw : List ℕ) : Type 0 where
  pub lines : l ≡ over_at n (map item_line xs) l₀
  pub spans : s ≡ over_at n (map item_span xs) s₀
  pub lefts : nl ≡ over (map item_left (nexts xs)) nl₀
  pub ats : na ≡ over (map item_pos (nexts xs)) na₀
  pub wides : nw ≡ over (map item_span (nexts xs)) nw₀

-- r of them do
pub record OneRowPost (n : ℕ) (xs : List Item) (r : ℕ) (l₀ s₀ nl₀ na₀ nw₀ l s nl na nw : List ℕ) : Type 0 where
  pub hangs : r ≡ length (nexts xs)
  pub written : WrittenAt n xs l₀ s₀ nl₀ na₀ nw₀ l s nl na nw

-- what one row takes: its cells and what hangs lie within the slices, it ends within position 4,096, and there is room for as many entries
pub record OneRowPre (lines spans rows : List ℕ) (a e : ℕ) (left at wide : List ℕ) (k : ℕ) (l s : List ℕ) (n : ℕ) (nl na nw : List ℕ) : Type 0 where
  pub rises : a ≤ e
  pub lines_in_fits : e ≤ length lines
  pub spans_in : e ≤ length spans
  pub rows_in_fits : e ≤ length rows
  pub left_in : k ≤ length left
  pub at_in : k ≤ length at
  pub wide_in : k ≤ length wide
  pub ends : items_end (row_at lines spans rows a e left at wide k) ≤ max_position
  pub line_capacity : n + (e - a) + k ≤ length l
  pub span_capacity : n + (e - a) + k ≤ length s
  pub next_left_capacity : e - a + k ≤ length nl
  pub next_at_capacity : e - a + k ≤ length na
  pub next_wide_capacity : e - a + k ≤ length nw

-- ---- all rows

-- lines and spans of entries
pub record Stored (xs : List Item) (l₀ s₀ l s : List ℕ) : Type 0 where
  pub lines : l ≡ over (map item_line xs) l₀
  pub spans : s ≡ over (map item_span xs) s₀

-- all rows are written over the front of the slices
pub record Positioned (table : List cells.Row) (l₀ s₀ e₀ l s e : List ℕ) : Type 0 where
  pub stored : Stored (all_items (all_rows table)) l₀ s₀ l s
  pub ends : e ≡ over (entry_ends 0 (all_rows table)) e₀

-- and counted
pub record PositionRowsPost (table : List cells.Row) (r : Positions) (l₀ s₀ e₀ l s e : List ℕ) : Type 0 where
  pub rows_are : r.rows ≡ length table
  pub entries_are : r.entries ≡ entry_count (all_rows table)
  pub positioned : Positioned table l₀ s₀ e₀ l s e

-- the table of the slices is sound, whichever the lines of its rows are: no row ends past position 4,096, and there are at most 8,192 entries,
-- with a place for each
pub record RowsWithin (lines spans rows ends l s : List ℕ) : Type 0 where
  pub ends_in : (row_lines : List ℕ) → ends_past (all_rows (table_of lines spans rows row_lines 0 ends)) ≡ false
  pub few : (row_lines : List ℕ) → entry_count (all_rows (table_of lines spans rows row_lines 0 ends)) ≤ max_entries
  pub line_capacity : (row_lines : List ℕ) → entry_count (all_rows (table_of lines spans rows row_lines 0 ends)) ≤ length l
  pub span_capacity : (row_lines : List ℕ) → entry_count (all_rows (table_of lines spans rows row_lines 0 ends)) ≤ length s

-- what all rows take: a sound table, its cells in slices of one length, each row's up to its end, few enough of both, and slices with room for as
-- many as there are rows and cells
pub record PositionRowsPre (lines spans rows ends l s e left at wide nl na nw : List ℕ) : Type 0 where
  pub rising : Rising 0 ends (length lines)
  pub spans_length : length spans ≡ length lines
  pub rows_length : length rows ≡ length lines
  pub few : length ends + length lines ≤ max_lines
  pub within : RowsWithin lines spans rows ends l s
  pub row_end_capacity : length ends ≤ length e
  pub left_capacity : length lines ≤ length left
  pub at_capacity : length lines ≤ length at
  pub wide_capacity : length lines ≤ length wide
  pub next_left_capacity : length lines ≤ length nl
  pub next_at_capacity : length lines ≤ length na
  pub next_wide_capacity : length lines ≤ length nw
