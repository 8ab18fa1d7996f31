-- A row of the grid in slices of numbers, and what the functions that merge it take and promise.
use Rattle.std.specs.Prelude.{◌≡◌, Bool, true, false, cond, ◌||◌, List, [], ◌∷◌, map, ℕ, suc, ◌+◌, ◌≤◌, length, drop, get_or, set, leb}
use Rattle.std.proofs.lemmas.List.Edits.{sets}
use Rattle.common.specs.inner.Lists.{over}
use Rattle.grid_row.specs.Row.{Item, hang_of, rows_below, item, item_span, nexts, row_from}

-- the line that a listing shows: 0 for a filler
abbrev pub item_line : Item → ℕ
item_line x = cond x.filler 0 x.owner

abbrev pub item_left : Item → ℕ
item_left x = x.left

abbrev pub item_pos : Item → ℕ
item_pos x = x.pos

-- Number slices: three of a row's cells, and three of what hangs (their owners are not kept).

unfoldable pub cells_of : List ℕ → List ℕ → List ℕ → List Item
cells_of [] spans rows = []
cells_of (l ∷ lines) spans rows =
    item l false (suc (rows_below (get_or rows 0 0))) 0 (get_or spans 0 0) ∷ cells_of lines (drop 1 spans) (drop 1 rows)

unfoldable pub hanging : List ℕ → List ℕ → List ℕ → List Item
hanging [] poss spans = []
hanging (l ∷ lefts) poss spans = item 0 true l (get_or poss 0 0) (get_or spans 0 0) ∷ hanging lefts (drop 1 poss) (drop 1 spans)

-- the row of these slices
unfoldable pub row_of : List ℕ → List ℕ → List ℕ → List ℕ → List ℕ → List ℕ → List Item
row_of lines spans rows left at wide = row_from 0 (hanging left at wide) (cells_of lines spans rows)

-- is the first hanging one due at position p; after the last cell each is
unfoldable pub due_at : List ℕ → ℕ → Bool → Bool
due_at [] p last = false
due_at (x ∷ xs) p last = last || leb x p

-- the entries xs and what hangs on written over the lent slices
pub record Written (xs : List Item) (l₀ s₀ nl₀ na₀ nw₀ l s nl na nw : List ℕ) : Type 0 where
  pub lines : l ≡ over (map item_line xs) l₀
  pub spans : s ≡ over (map item_span xs) s₀
  pub lefts : nl ≡ over (map item_left (nexts xs)) nl₀
  pub ats : na ≡ over (map item_pos (nexts xs)) na₀
  pub wides : nw ≡ over (map item_span (nexts xs)) nw₀

-- each of the lent slices has n places
pub record MergeRowPre (n : ℕ) (l s nl na nw : List ℕ) : Type 0 where
  pub lines : n ≤ length l
  pub spans : n ≤ length s
  pub lefts : n ≤ length nl
  pub ats : n ≤ length na
  pub wides : n ≤ length nw

-- the item x stored as entry n, and what of it hangs on from k on, of which there are then r
pub record PutPost (n k : ℕ) (x : Item) (r : ℕ) (l₀ s₀ nl₀ na₀ nw₀ l s nl na nw : List ℕ) : Type 0 where
  pub lines : l ≡ set l₀ n (item_line x)
  pub spans : s ≡ set s₀ n x.span
  pub hangs : r ≡ k + length (hang_of x)
  pub lefts : nl ≡ sets nl₀ k (map item_left (hang_of x))
  pub ats : na ≡ sets na₀ k (map item_pos (hang_of x))
  pub wides : nw ≡ sets nw₀ k (map item_span (hang_of x))

-- a row is merged: r of its entries xs hang on, and all is written
pub record MergeRowPost (xs : List Item) (r : ℕ) (l₀ s₀ nl₀ na₀ nw₀ l s nl na nw : List ℕ) : Type 0 where
  pub hangs : r ≡ length (nexts xs)
  pub written : Written xs l₀ s₀ nl₀ na₀ nw₀ l s nl na nw
