-- The resolved row: the cells of a table as they are written, row by row and body by body, what a colspan of 0 becomes,
-- and where a rowspan ends.
use Rattle.std.specs.Prelude.{cond, List, [], ◌∷◌, ◌++◌, map, ℕ, suc, ◌+◌, ◌-◌, max, min, leb, eqb, length}
use Rattle.common.specs.Lists.{sum}
use Rattle.records.specs.declared.NodeRecord.{NodeRecord}

-- a cell: its line, its cols and its rows
pub record Cell : Type 0 where
  pub line : ℕ
  pub cols : ℕ
  pub rows : ℕ

abbrev pub cell : ℕ → ℕ → ℕ → Cell
cell line cols rows = record { line = line; cols = cols; rows = rows }

-- a row: its line and its cells
pub record Row : Type 0 where
  pub line : ℕ
  pub cells : List Cell

abbrev pub row : ℕ → List Cell → Row
row line cells = record { line = line; cells = cells }

-- what the lines after a table's line hold: the bodies, before them rows whose body's line is still to come, and before these
-- cells whose row's line is still to come
pub record Frame : Type 0 where
  pub cells : List Cell
  pub rows : List Row
  pub bodies : List (List Row)

abbrev pub no_frame : Frame
no_frame = record { cells = []; rows = []; bodies = [] }

abbrev pub open_body : Frame → Frame
open_body f = record { cells = []; rows = []; bodies = f.rows ∷ f.bodies }

abbrev pub open_row : ℕ → Frame → Frame
open_row k f = record { cells = []; rows = row k f.cells ∷ f.rows; bodies = f.bodies }

abbrev pub open_cell : ℕ → NodeRecord → Frame → Frame
open_cell k l f = record { cells = cell k l.cols l.rows ∷ f.cells; rows = f.rows; bodies = f.bodies }

-- the lines from line k on, below a table of depth d: bodies one deeper, their rows two deeper, their cells three deeper; what is still
-- deeper stands in the cells; the first line that is no deeper ends the table
unfoldable pub frame : ℕ → ℕ → List NodeRecord → Frame
frame d k [] = no_frame
frame d k (l ∷ ls) =
    cond (leb l.depth d) no_frame
    (cond (eqb l.depth (d + 1)) (open_body (frame d (suc k) ls))
    (cond (eqb l.depth (d + 2)) (open_row k (frame d (suc k) ls))
    (cond (eqb l.depth (d + 3)) (open_cell k l (frame d (suc k) ls))
    (frame d (suc k) ls))))

-- the bodies of the table of depth d whose line is line t, where the lines after it follow
abbrev pub bodies_of : ℕ → ℕ → List NodeRecord → List (List Row)
bodies_of d t ls = (frame d (suc t) ls).bodies

-- a row's sum counts every cell's cols, 0 as 1
abbrev pub counted : Cell → ℕ
counted c = max c.cols 1

unfoldable pub row_sum : List Cell → ℕ
row_sum cs = sum (map counted cs)

-- the maximum is over the rows of a body
unfoldable pub widest : List Row → ℕ
widest [] = 0
widest (r ∷ rs) = max (row_sum r.cells) (widest rs)

-- each 0 becomes maximum - sum + 1
abbrev pub resolve_cell : ℕ → Cell → Cell
resolve_cell instead c = cell c.line (cond (eqb c.cols 0) instead c.cols) c.rows

unfoldable pub resolve_row : ℕ → Row → Row
resolve_row most r = row r.line (map (resolve_cell (most - row_sum r.cells + 1)) r.cells)

unfoldable pub fill_body : List Row → List Row
fill_body rs = map (resolve_row (widest rs)) rs

-- a rowspan never leaves its body: into how many rows a cell hangs, where `left` rows follow its own in the body. Rows 0 runs to the body's last
-- row; any other figure hangs into one row less, as far as there are rows
abbrev pub hangs : ℕ → ℕ → ℕ
hangs left rows = cond (eqb rows 0) left (min (rows - 1) left)

-- how many rows a cell takes: its own, and those that it hangs into
abbrev pub taken : ℕ → ℕ → ℕ
taken left rows = suc (hangs left rows)

abbrev pub cut_cell : ℕ → Cell → Cell
cut_cell left c = cell c.line c.cols (taken left c.rows)

unfoldable pub cut_row : ℕ → Row → Row
cut_row left r = row r.line (map (cut_cell left) r.cells)

unfoldable pub cut_body : List Row → List Row
cut_body [] = []
cut_body (r ∷ rs) = cut_row (length rs) r ∷ cut_body rs

unfoldable pub resolve_body : List Row → List Row
resolve_body rs = cut_body (fill_body rs)

-- all bodies' rows in order
unfoldable pub resolved : List (List Row) → List Row
resolved [] = []
resolved (b ∷ bs) = resolve_body b ++ resolved bs

-- the resolved rows of the table of depth d whose line is line t, where the lines after it follow
abbrev pub rows_under : ℕ → ℕ → List NodeRecord → List Row
rows_under d t ls = resolved (bodies_of d t ls)
