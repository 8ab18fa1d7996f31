-- The owner of an entry of a grid, by the items of the rows of which the grid is made.
use mathlib.Core.Path.{◌≡◌, refl, sym, ap, ap₂, ◌∙◌}
use mathlib.Core.Bool.{Bool, true, false, cond}
use mathlib.Core.List.{List, [], ◌∷◌, ◌++◌, map, map-append}
use Prim.Native.Nat.{ℕ, zero, suc, ◌+◌, ◌≤◌, ◌<◌}
use native.Mathlib.Nat.{not-suc-le-zero, le_of_suc-le-suc}
use lib.ListN.{length, get_or, length-map}
use Rattle.std.specs.Prelude.{Option, None, Some}
use Rattle.grid_row.specs.Row.{Item, item}
use Rattle.grid_row.specs.inner.Row.{item_line}
use Rattle.grid_positions.specs.Positions.{PositionRow}
use Rattle.grid_positions.specs.inner.Slices.{all_items}
use Rattle.grid.specs.Grid.{Entry, entry, entries_from, grid_row, entries_of}
use Rattle.owners.specs.Owner.{filler_owner}

abbrev pub no_item : Item
no_item = item 0 false 0 0 0

-- an entry without its columns, and an item as one
abbrev plain : Entry → Entry
plain e = entry e.owner e.filler 0 0

abbrev plain_item : Item → Entry
plain_item x = entry x.owner x.filler 0 0

row_plain : (rs : List PositionRow) (p : ℕ) (xs : List Item) → map plain (entries_from rs p xs) ≡ map plain_item xs
unfolding entries_from
row_plain rs p [] = refl
row_plain rs p (x ∷ xs) = ap (λ (l : List Entry). plain_item x ∷ l) (row_plain rs (p + x.span) xs)

pub rows_plain : (rs qs : List PositionRow) → map plain (entries_of (map (grid_row rs) qs)) ≡ map plain_item (all_items qs)
unfolding entries_of all_items
rows_plain rs [] = refl
rows_plain rs (q ∷ qs) =
    map-append plain (entries_from rs 0 q.items) (entries_of (map (grid_row rs) qs))
    ∙ ap₂ (λ (a b : List Entry). a ++ b) (row_plain rs 0 q.items) (rows_plain rs qs)
    ∙ sym (map-append plain_item q.items (all_items qs))

-- ---- the owner does not depend on the columns

owner_plain : (es : List Entry) (n : ℕ) → filler_owner (map plain es) n ≡ filler_owner es n
unfolding filler_owner
owner_plain [] n = refl
owner_plain (e ∷ es) zero = refl
owner_plain (e ∷ es) (suc n) = owner_plain es n

-- the owner of an item
abbrev pub item_owner : Item → Option ℕ
item_owner x = cond x.filler (Some x.owner) None

-- none of one whose line is shown
pub shown_none : (x : Item) → ¬ (item_line x ≡ 0) → item_owner x ≡ None
shown_none x = go x.filler
  where
    go : (b : Bool) → ¬ (cond b 0 x.owner ≡ 0) → cond b (Some x.owner) None ≡ None
    go true h = absurd (h refl)
    go false h = refl

owner_item : (xs : List Item) (n : ℕ) → n < length xs → filler_owner (map plain_item xs) n ≡ item_owner (get_or xs n no_item)
unfolding filler_owner
owner_item [] n h = absurd (not-suc-le-zero h)
owner_item (x ∷ xs) zero h = refl
owner_item (x ∷ xs) (suc n) h = owner_item xs n (le_of_suc-le-suc h)

-- past the last entry there is none
pub owner_past : (es : List Entry) (n : ℕ) → length es ≤ n → filler_owner es n ≡ None
unfolding filler_owner
owner_past [] n h = refl
owner_past (e ∷ es) zero h = absurd (not-suc-le-zero h)
owner_past (e ∷ es) (suc n) h = owner_past es n (le_of_suc-le-suc h)

module _ (rs qs : List PositionRow) where
  pub rows_length : length (entries_of (map (grid_row rs) qs)) ≡ length (all_items qs)
  rows_length = sym (length-map (entries_of (map (grid_row rs) qs)) plain) ∙ ap length (rows_plain rs qs) ∙ length-map (all_items qs) plain_item

  -- of an entry, that of its item
  pub rows_owner : (n : ℕ) → n < length (all_items qs) → filler_owner (entries_of (map (grid_row rs) qs)) n ≡ item_owner (get_or (all_items qs) n no_item)
  rows_owner n h =
      sym (owner_plain (entries_of (map (grid_row rs) qs)) n)
      ∙ ap (λ (l : List Entry). filler_owner l n) (rows_plain rs qs)
      ∙ owner_item (all_items qs) n h
