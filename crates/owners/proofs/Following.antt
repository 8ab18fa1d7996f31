-- The entries of all rows, one after the other, as the loop goes through them: a filler is the first of what hangs, any other entry is the next of the
-- table's cells, and what hangs of either is put last. By induction on the merge of a row, and on the rows of the table.
use mathlib.Core.Path.{◌≡◌, refl, sym, ap, subst}
use mathlib.Core.Bool.{Bool, true, false, cond}
use mathlib.Core.List.{List, [], ◌∷◌, ◌++◌, map, append_assoc, append-nil, map-append}
use Prim.Native.Nat.{◌≤◌}
use native.Mathlib.Omega.{arith}
use Rattle.common.specs.Lists.{All}
use Rattle.common.proofs.All.{all_map}
use Rattle.resolved_rows.specs.Cells as cells
use Rattle.resolved_rows.specs.inner.Listed.{all_cells}
use Rattle.grid_row.specs.Row.{Item, item_of, placed, row_from, hang_of, nexts}
use Rattle.grid_row.specs.inner.Row.{item_line}
use Rattle.grid_row.proofs.Merging.{Merging, after, filler, free, before, merging, Filler, nexts_fillers}
use Rattle.grid_positions.specs.Positions.{originals}
use Rattle.grid_positions.specs.inner.Slices.{all_items}

-- with q hanging and the cells cs to come, the entries are xs
pub data Follows : List Item → List Item → List Item → Type 0 where
  none : {q cs : List Item} → Follows q cs []
  next_hung : {q : List Item} {x : Item} {cs xs : List Item} → x.filler ≡ true → Follows (q ++ hang_of x) cs xs → Follows (x ∷ q) cs (x ∷ xs)
  next_cell : {q : List Item} {c : Item} {cs : List Item} {x : Item} {xs : List Item} → x.filler ≡ false → 1 ≤ x.owner → x.left ≡ c.left
      → Follows (q ++ hang_of x) cs xs → Follows q (c ∷ cs) (x ∷ xs)

-- a cell that stands in a line
abbrev pub InLine : Item → Type 0
InLine c = (c.filler ≡ false) × (1 ≤ c.owner)

-- ---- one row, after which come others

module _ (rest later : List Item) where
  -- what hangs of an entry is put behind what hangs
  behind : (q : List Item) (x : Item) (xs : List Item) → Follows (q ++ nexts (x ∷ xs)) rest later → Follows ((q ++ hang_of x) ++ nexts xs) rest later
  unfolding nexts
  behind q x xs w = subst (λ (l : List Item). Follows l rest later) (sym (append_assoc q (hang_of x) (nexts xs))) w

  ahead : (hs q : List Item) (x : Item) {cs xs : List Item} → Follows (hs ++ (q ++ hang_of x)) cs xs → Follows ((hs ++ q) ++ hang_of x) cs xs
  ahead hs q x {cs} {xs} w = subst (λ (l : List Item). Follows l cs xs) (sym (append_assoc hs q (hang_of x))) w

  hung_follow : (hs q : List Item) → All Filler hs → Follows (q ++ nexts hs) rest later → Follows (hs ++ q) rest (hs ++ later)
  unfolding All nexts
  hung_follow [] q f w = subst (λ (l : List Item). Follows l rest later) (append-nil q) w
  hung_follow (h ∷ hs) q f w = next_hung f.0 (ahead hs q h (hung_follow hs (q ++ hang_of h) f.1 (behind q h hs w)))

  row_follows : {p : _} {hs cs xs : List Item} → Merging p hs cs xs → All Filler hs → All InLine cs → (q : List Item)
      → Follows (q ++ nexts xs) rest later → Follows (hs ++ q) (cs ++ rest) (xs ++ later)
  unfolding All
  row_follows (after {p} {hs}) f l q w = hung_follow hs q f w
  row_follows (filler {p} {h} {hs} {cs} {xs} e m) f l q w = next_hung f.0 (ahead hs q h (row_follows m f.1 l (q ++ hang_of h) (behind q h xs w)))
  row_follows (free {p} {c} {cs} {xs} m) f l q w =
      next_cell l.0.0 l.0.1 refl (row_follows m f l.1 (q ++ hang_of (placed c p)) (behind q (placed c p) xs w))
  row_follows (before {p} {h} {hs} {c} {cs} {xs} e m) f l q w =
      next_cell l.0.0 l.0.1 refl (ahead (h ∷ hs) q (placed c p) (row_follows m f l.1 (q ++ hang_of (placed c p)) (behind q (placed c p) xs w)))

-- ---- all rows

-- every cell stands in a line
abbrev pub Lines : List cells.Row → Type 0
Lines table = All (λ r. All (λ c. 1 ≤ c.line) r.cells) table

cells_in_line : (cs : List cells.Cell) → All (λ c. 1 ≤ c.line) cs → All InLine (map item_of cs)
cells_in_line cs a = all_map (λ c. 1 ≤ c.line) InLine item_of (λ c w. (refl, w)) cs a

pub rows_follow : (hs : List Item) (table : List cells.Row) → All Filler hs → Lines table → Follows hs (map item_of (all_cells table)) (all_items (originals hs table))
unfolding All originals all_cells all_items
rows_follow hs [] f l = none
rows_follow hs (r ∷ rs) f l =
    let X = row_from 0 hs (map item_of r.cells) in
    let C = map item_of (all_cells rs) in
    let R = all_items (originals (nexts X) rs) in
    subst (λ (q : List Item). Follows q (map item_of (r.cells ++ all_cells rs)) (X ++ R)) (append-nil hs)
    (subst (λ (cs : List Item). Follows (hs ++ []) cs (X ++ R)) (sym (map-append item_of r.cells (all_cells rs)))
    (row_follows C R (merging 0 hs (map item_of r.cells)) f (cells_in_line r.cells l.0) [] (rows_follow (nexts X) rs (nexts_fillers X) l.1)))

-- ---- which is next

-- the first of what hangs is
pub record NextHung (q cs : List Item) (x : Item) (xs : List Item) : Type 0 where
  pub behind : List Item
  pub first : q ≡ x ∷ behind
  pub filler : x.filler ≡ true
  pub more : Follows (behind ++ hang_of x) cs xs

-- a cell is
pub record NextCell (q cs : List Item) (x : Item) (xs : List Item) : Type 0 where
  pub cell : Item
  pub later : List Item
  pub first : cs ≡ cell ∷ later
  pub none : x.filler ≡ false
  pub left : x.left ≡ cell.left
  pub more : Follows (q ++ hang_of x) later xs

pub line_shown : (x : Item) → x.filler ≡ false → item_line x ≡ x.owner
line_shown x f = ap (λ (b : Bool). cond b 0 x.owner) f

line_hidden : (x : Item) → x.filler ≡ true → item_line x ≡ 0
line_hidden x f = ap (λ (b : Bool). cond b 0 x.owner) f

-- the line that is shown tells
pub hung_next : {q cs : List Item} {x : Item} {xs : List Item} → Follows q cs (x ∷ xs) → item_line x ≡ 0 → NextHung q cs x xs
hung_next (next_hung {q} f w) e = record { behind = q; first = refl; filler = f; more = w }
hung_next (next_cell {q} {c} {cs} {x} f l m w) e = absurd (omega (arith, l, e, line_shown x f))

pub cell_next : {q cs : List Item} {x : Item} {xs : List Item} → Follows q cs (x ∷ xs) → 1 ≤ item_line x → NextCell q cs x xs
cell_next (next_hung {q} {x} f w) e = absurd (omega (arith, e, line_hidden x f))
cell_next (next_cell {q} {c} {cs} f l m w) e = record { cell = c; later = cs; first = refl; none = f; left = m; more = w }
