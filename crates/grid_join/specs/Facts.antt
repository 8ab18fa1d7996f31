-- What holds of two grids joined. These are statements; proofs/ has their proofs.
use Rattle.std.specs.Prelude.{◌≡◌, Bool, cond, not, ◌&&◌, false, List, [], ◌∷◌, ◌++◌, map, ℕ, ◌+◌, ◌<◌, max, ltb, leb, eqb, length, get_or, drop}
use Rattle.common.specs.Lists.{All}
use Rattle.grid.specs.Grid.{Entry, GridRow, entries_of}
use Rattle.grid.specs.Facts.{EntriesTile}
use Rattle.grid_join.specs.Joined.{empty_entries, moved, end_from, filled, row_with, joined}

-- a row past the last
abbrev pub no_row : GridRow
no_row = row_with 0 []

-- the row's entries tile the columns from 0 on
abbrev pub RowTiles : ℕ → GridRow → Type 0
RowTiles columns r = EntriesTile columns 0 r.entries

-- the joined rows tile the columns of both
abbrev pub JoinedTiles : Type 0
JoinedTiles = (c d : ℕ) (ls rs : List GridRow) → All (RowTiles c) ls → All (RowTiles d) rs → All (RowTiles (c + d)) (joined c d ls rs)

-- ---- the rows

-- there are as many as in the longer grid
abbrev pub JoinedCount : Type 0
JoinedCount = (c d : ℕ) (ls rs : List GridRow) → length (joined c d ls rs) ≡ max (length ls) (length rs)

-- the parts of the first row of those that are given, and its line
abbrev pub left_part : ℕ → List GridRow → List Entry
left_part c [] = empty_entries 0 c
left_part c (l ∷ ls) = filled c l.entries

abbrev pub right_part : (c d : ℕ) → List GridRow → List Entry
right_part c d [] = empty_entries c (c + d)
right_part c d (r ∷ rs) = map (moved c) r.entries

abbrev pub line_of : List GridRow → List GridRow → ℕ
line_of [] [] = 0
line_of [] (r ∷ rs) = r.line
line_of (l ∷ ls) rs = l.line

-- row i is the left part and the right part of the rows from i on
abbrev pub JoinedRow : Type 0
JoinedRow = (c d : ℕ) (ls rs : List GridRow) (i : ℕ) → i < max (length ls) (length rs)
    → get_or (joined c d ls rs) i no_row ≡ row_with (line_of (drop i ls) (drop i rs)) (left_part c (drop i ls) ++ right_part c d (drop i rs))

-- some row ends with the last of c columns, if there are columns
pub record Reach (c : ℕ) (g : List GridRow) : Type 0 where
  pub row : ℕ
  pub there : row < length g
  pub ends : end_from 0 (get_or g row no_row).entries ≡ c

abbrev pub Reaches : ℕ → List GridRow → Type 0
Reaches c g = 0 < c → Reach c g

-- the columns are no more than the rows take, if it is so of both grids
abbrev pub JoinedReaches : Type 0
JoinedReaches = (c d : ℕ) (ls rs : List GridRow) → All (RowTiles c) ls → All (RowTiles d) rs → Reaches c ls → Reaches d rs → Reaches (c + d) (joined c d ls rs)

-- ---- every entry of both stands there once

-- an entry without an owner is empty
abbrev pub is_empty : Entry → Bool
is_empty e = e.filler && eqb e.owner 0

-- an entry of a table has an owner, unless it is a cell
abbrev pub Owned : Entry → Type 0
Owned e = is_empty e ≡ false

abbrev pub RowOwned : GridRow → Type 0
RowOwned r = All Owned r.entries

-- an entry that is not empty stands in the left columns, or in the right ones
abbrev pub in_left : ℕ → Entry → Bool
in_left c e = not (is_empty e) && ltb e.first c

abbrev pub in_right : ℕ → Entry → Bool
in_right c e = not (is_empty e) && leb c e.first

-- those of the entries that pass a test, in order
unfoldable pub only : (Entry → Bool) → List Entry → List Entry
only f [] = []
only f (e ∷ es) = cond (f e) (e ∷ only f es) (only f es)

-- those in the left columns are the left grid's, in the order in which they stood; so the others there are empty
abbrev pub LeftKept : Type 0
LeftKept = (c d : ℕ) (ls rs : List GridRow) → All (RowTiles c) ls → All RowOwned ls → All RowOwned rs
    → only (in_left c) (entries_of (joined c d ls rs)) ≡ entries_of ls

-- those in the right columns are the right grid's, moved, in the order in which they stood
abbrev pub RightKept : Type 0
RightKept = (c d : ℕ) (ls rs : List GridRow) → All (RowTiles c) ls → All RowOwned ls → All RowOwned rs
    → only (in_right c) (entries_of (joined c d ls rs)) ≡ map (moved c) (entries_of rs)
