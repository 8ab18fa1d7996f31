-- What an entry of two grids joined is.
use Rattle.std.specs.Prelude.{cond, ◌&&◌, List, [], ◌∷◌, ℕ, ◌+◌, ◌-◌, ltb, leb, length}
use Rattle.records.specs.declared.NodeRecord.{NodeRecord}
use Rattle.records.specs.declared.Entry as records
use Rattle.records.specs.declared.RowEnd.{RowEnd}
use Rattle.grid.specs.Grid.{GridRow}
use Rattle.grid_join.specs.Facts.{left_part, right_part}
use Rattle.owners.specs.inner.Finding.{FillerOwnerPre}
use Rattle.joined_owners.specs.declared.Place.{Place}
use Rattle.joined_owners.specs.declared.Place.TheVariants.{Left, Right, Empty, Past}

-- a table of an accepted sheet and the records of its grid, twice
pub record JoinedOwnerPre (ks : List NodeRecord) (l r : ℕ) (left : List records.Entry) (left_rows : List RowEnd) (c : ℕ) (right : List records.Entry)
    (right_rows : List RowEnd) (d : ℕ) : Type 0 where
  pub left_table : FillerOwnerPre ks l left left_rows c
  pub right_table : FillerOwnerPre ks r right right_rows d

-- the entry e of a row: of the left part's k entries the first n are left ones, of which a stand before; of those after them the first m are right
-- ones, of which b stand before; the others are empty
abbrev pub in_row : (a n k b m e : ℕ) → Place
in_row a n k b m e = cond (ltb e n) (Left (a + e)) (cond (leb k e && ltb (e - k) m) (Right (b + (e - k))) Empty)

-- how many entries the first row has, of those that are given
abbrev pub first_length : List GridRow → ℕ
first_length [] = 0
first_length (r ∷ rs) = length r.entries

-- how many the first joined row has
abbrev pub row_length : (c d : ℕ) → List GridRow → List GridRow → ℕ
row_length c d ls rs = length (left_part c ls) + length (right_part c d rs)

-- the entry e of the first joined row; of those after it, what is told
abbrev pub row_place : (c d a b : ℕ) → List GridRow → List GridRow → ℕ → Place → Place
row_place c d a b ls rs e after =
    cond (ltb e (row_length c d ls rs)) (in_row a (first_length ls) (length (left_part c ls)) b (first_length rs) e) after

-- the entry e of the joined rows, where a and b entries stand before the rows
unfoldable pub place : (c d a b : ℕ) → List GridRow → List GridRow → ℕ → Place
place c d a b [] [] e = Past
place c d a b [] (r ∷ rs) e = row_place c d a b [] (r ∷ rs) e (place c d (a + 0) (b + length r.entries) [] rs (e - row_length c d [] (r ∷ rs)))
place c d a b (l ∷ ls) [] e = row_place c d a b (l ∷ ls) [] e (place c d (a + length l.entries) (b + 0) ls [] (e - row_length c d (l ∷ ls) []))
place c d a b (l ∷ ls) (r ∷ rs) e =
    row_place c d a b (l ∷ ls) (r ∷ rs) e (place c d (a + length l.entries) (b + length r.entries) ls rs (e - row_length c d (l ∷ ls) (r ∷ rs)))
