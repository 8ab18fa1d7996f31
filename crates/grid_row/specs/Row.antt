-- One row of the grid: its cells, and fillers for the cells that hang into it from rows above.
use Rattle.std.specs.Prelude.{Bool, true, false, cond, List, [], ◌∷◌, ◌++◌, map, ℕ, suc, ◌+◌, ◌-◌, leb, ltb}
use Rattle.common.specs.Lists.{sum}
use Rattle.resolved_rows.specs.Cells.{Cell}

-- an entry of a row, or one that hangs into it: the line of the cell that it is or continues, whether it is a filler, the rows that it
-- takes from this one on, the position that it keeps while it hangs, and its span
pub record Item : Type 0 where
  pub owner : ℕ
  pub filler : Bool
  pub left : ℕ
  pub pos : ℕ
  pub span : ℕ

abbrev pub item : ℕ → Bool → ℕ → ℕ → ℕ → Item
item owner filler left pos span = record { owner = owner; filler = filler; left = left; pos = pos; span = span }

abbrev pub item_span : Item → ℕ
item_span x = x.span

-- where a row ends: the sum of its spans
abbrev pub items_end : List Item → ℕ
items_end xs = sum (map item_span xs)

-- how many more rows a cell hangs
abbrev pub rows_below : ℕ → ℕ
rows_below rows = rows - 1

-- a cell of resolved cols
abbrev pub item_of : Cell → Item
item_of c = item c.line false (suc (rows_below c.rows)) 0 c.cols

-- the hanging ones that go in before a cell at position p: while the first has a position that is at most the current one
unfoldable pub fillers : ℕ → List Item → List Item
fillers p [] = []
fillers p (h ∷ hs) = cond (leb h.pos p) (h ∷ fillers (p + h.span) hs) []

-- the hanging ones that are left after them
unfoldable pub later : ℕ → List Item → List Item
later p [] = []
later p (h ∷ hs) = cond (leb h.pos p) (later (p + h.span) hs) (h ∷ hs)

-- a cell at the position p
abbrev pub placed : Item → ℕ → Item
placed c p = item c.owner c.filler c.left p c.span

-- the row from position p on: before each cell its fillers, and after the last cell every hanging one that is left, without a gap
unfoldable pub row_from : ℕ → List Item → List Item → List Item
row_from p hs [] = hs
row_from p hs (c ∷ cs) =
    fillers p hs ++ placed c (p + items_end (fillers p hs)) ∷ row_from (p + items_end (fillers p hs) + c.span) (later p hs) cs

-- what hangs into the next row, in the order in which cells and fillers stand in this one; it keeps its position
unfoldable pub hang_of : Item → List Item
hang_of x = cond (ltb 1 x.left) (item x.owner true (x.left - 1) x.pos x.span ∷ []) []

unfoldable pub nexts : List Item → List Item
nexts [] = []
nexts (x ∷ xs) = hang_of x ++ nexts xs
