-- Cases of two grids joined, computed from the definitions.
use Rattle.std.specs.Prelude.{◌≡◌, refl, true, false, List, [], ◌∷◌, ℕ, replicate, Ok, Err}
use Rattle.common.specs.Refusals.{refusal, first_answer, verdict_of}
use Rattle.common.specs.declared.Reason.TheVariants.{RowEnd, TooManyEntries}
use Rattle.grid.specs.Grid.{Entry, entry, GridRow, entries_of}
use Rattle.grid_join.specs.Joined.{end_from, row_with, joined, joined_checks}

-- a cell over one column
abbrev cell : ℕ → ℕ → Entry
cell line first = entry line false first 1

-- an empty entry
abbrev empty : ℕ → ℕ → Entry
empty first span = entry 0 true first span

-- left rows of 5, 6 and of 8; right rows of 12, 13, of 15, and one that is there and empty
abbrev fabric : List GridRow
fabric = row_with 4 (cell 5 0 ∷ cell 6 1 ∷ []) ∷ row_with 7 (cell 8 0 ∷ []) ∷ []

abbrev damp : List GridRow
damp = row_with 11 (cell 12 0 ∷ cell 13 1 ∷ []) ∷ row_with 14 (cell 15 0 ∷ []) ∷ row_with 16 [] ∷ []

-- the short left row is filled up; the left has no third row, and the right's third is empty: its line, one empty entry over the left's columns
side_by_side : joined 2 2 fabric damp
    ≡ row_with 4 (cell 5 0 ∷ cell 6 1 ∷ cell 12 2 ∷ cell 13 3 ∷ [])
    ∷ row_with 7 (cell 8 0 ∷ empty 1 1 ∷ cell 15 2 ∷ [])
    ∷ row_with 16 (empty 0 2 ∷ [])
    ∷ []
unfolding joined end_from
side_by_side = refl

-- the other way round: the right has no third row, so an empty entry over all its columns stands in; a short right row stays short
other_way : joined 2 2 damp fabric
    ≡ row_with 11 (cell 12 0 ∷ cell 13 1 ∷ cell 5 2 ∷ cell 6 3 ∷ [])
    ∷ row_with 14 (cell 15 0 ∷ empty 1 1 ∷ cell 8 2 ∷ [])
    ∷ row_with 16 (empty 0 2 ∷ empty 2 2 ∷ [])
    ∷ []
unfolding joined end_from
other_way = refl

-- a table without columns, on the left and on the right: nothing stands in for it
no_left_columns : joined 0 2 (row_with 20 [] ∷ []) damp
    ≡ row_with 20 (cell 12 0 ∷ cell 13 1 ∷ []) ∷ row_with 14 (cell 15 0 ∷ []) ∷ row_with 16 [] ∷ []
unfolding joined end_from
no_left_columns = refl

no_right_columns : joined 2 0 fabric (row_with 20 [] ∷ []) ≡ row_with 4 (cell 5 0 ∷ cell 6 1 ∷ []) ∷ row_with 7 (cell 8 0 ∷ empty 1 1 ∷ []) ∷ []
unfolding joined end_from
no_right_columns = refl

-- spans and owners of right entries stay: a filler that continues line 12 over two columns
right_kept : joined 1 3 (row_with 4 (cell 5 0 ∷ []) ∷ []) (row_with 11 (entry 12 true 0 2 ∷ cell 13 2 ∷ []) ∷ [])
    ≡ row_with 4 (cell 5 0 ∷ entry 12 true 1 2 ∷ cell 13 3 ∷ []) ∷ []
unfolding joined end_from
right_kept = refl

-- the same table twice
twice : joined 2 2 fabric fabric
    ≡ row_with 4 (cell 5 0 ∷ cell 6 1 ∷ cell 5 2 ∷ cell 6 3 ∷ []) ∷ row_with 7 (cell 8 0 ∷ empty 1 1 ∷ cell 8 2 ∷ []) ∷ []
unfolding joined end_from
twice = refl

-- 4,096 columns pass, one more is 5 on the left table's line
columns_4096 : verdict_of (joined_checks 3 4000 96 fabric damp) ≡ Ok tt
unfolding verdict_of first_answer joined_checks joined end_from entries_of
columns_4096 = refl

columns_4097 : verdict_of (joined_checks 3 4000 97 fabric damp) ≡ Err (refusal RowEnd 3)
unfolding verdict_of first_answer joined_checks
columns_4097 = refl

-- so many rows of two cells: beside a table without columns 8,192 entries pass; beside one cell, with an empty entry in every row after it, 8,193 are 6;
-- 5 comes before it
abbrev pairs : ℕ → List GridRow
pairs n = replicate n (row_with 4 (cell 5 0 ∷ cell 6 1 ∷ []))

entries_8192 : verdict_of (joined_checks 3 2 0 (pairs 4096) (row_with 20 [] ∷ [])) ≡ Ok tt
unfolding verdict_of first_answer joined_checks joined end_from entries_of
entries_8192 = refl

entries_8193 : verdict_of (joined_checks 3 2 1 (pairs 2731) (row_with 20 (cell 21 0 ∷ []) ∷ [])) ≡ Err (refusal TooManyEntries 3)
unfolding verdict_of first_answer joined_checks joined end_from entries_of
entries_8193 = refl

both_wrong : verdict_of (joined_checks 3 4096 1 (pairs 4096) (pairs 4096)) ≡ Err (refusal RowEnd 3)
unfolding verdict_of first_answer joined_checks
both_wrong = refl
