-- What holds of all rows of a table: how many there are, what they span, where they end, which entries are written, and that
-- positions rise. By induction on the table.
use mathlib.Core.Path.{◌≡◌, refl, sym, ap, ap₂, ◌∙◌}
use mathlib.Core.Bool.{Bool, true, false, ◌||◌}
use mathlib.Core.List.{List, [], ◌∷◌, ◌++◌, map, map-map, map-append}
use Prim.Native.Nat.{ℕ, suc, ◌+◌, ◌*◌, ◌≤◌}
use native.Mathlib.Nat.{mul-suc}
use native.Mathlib.Omega.{arith}
use lib.ListN.{length, length-append, length-map}
use lib.Dec.{ltb}
use borrow.Author.Tests.{ltb-false}
use Rattle.common.specs.Lists.{All}
use Rattle.common.specs.Limits.{max_position}
use Rattle.common.proofs.All.{all_map}
use Rattle.resolved_rows.specs.Cells.{Cell}
use Rattle.resolved_rows.specs.Cells as cells
use Rattle.resolved_rows.specs.inner.Listed as listed
use Rattle.resolved_rows.specs.inner.Listed.{all_cells}
use Rattle.grid_row.specs.Row.{Item, item_of, items_end, row_from, nexts}
use Rattle.grid_row.proofs.Steps.{nexts_length}
use Rattle.grid_row.proofs.Merging.{Wide, Filler, Ascends, row_length, row_wide, nexts_wide, nexts_fillers, row_ascends, nexts_ascends}
use Rattle.grid_positions.specs.Positions.{PositionRow, originals, all_rows, ends_past, entry_count}
use Rattle.grid_positions.specs.inner.Slices.{placed_line, all_items}
use Rattle.grid_positions.proofs.Written.{written, unplaced, NoFiller, written_append, row_written}

-- every cell takes at least one position
abbrev pub Spanned : List cells.Row → Type 0
Spanned table = All (λ r. All (λ c. 1 ≤ c.cols) r.cells) table

-- the entries of a row, with hs hanging into it
abbrev pub entries : List Item → cells.Row → List Item
entries hs r = row_from 0 hs (map item_of r.cells)

cells_wide : (cs : List Cell) → All (λ c. 1 ≤ c.cols) cs → All Wide (map item_of cs)
cells_wide cs e = all_map (λ c. 1 ≤ c.cols) Wide item_of (λ c w. w) cs e

cells_written : (cs : List Cell) → All NoFiller (map item_of cs)
unfolding All
cells_written [] = tt
cells_written (c ∷ cs) = (refl, cells_written cs)

-- ---- how many

pub originals_count : (hs : List Item) (table : List cells.Row) → length (originals hs table) ≡ length table
unfolding originals
originals_count hs [] = refl
originals_count hs (r ∷ rs) = ap suc (originals_count (nexts (entries hs r)) rs)

pub originals_lines : (hs : List Item) (table : List cells.Row) → map placed_line (originals hs table) ≡ map listed.written_line table
unfolding originals
originals_lines hs [] = refl
originals_lines hs (r ∷ rs) = ap (λ (l : List ℕ). r.line ∷ l) (originals_lines (nexts (entries hs r)) rs)

entries_count : (hs : List Item) (r : cells.Row) → length (entries hs r) ≡ length r.cells + length hs
entries_count hs r = row_length 0 hs (map item_of r.cells) ∙ ap (λ (n : ℕ). n + length hs) (length-map r.cells item_of)

-- no row has more entries than there are cells: for a table of c cells no more than c in each row
pub originals_small : (m : ℕ) (hs : List Item) (table : List cells.Row) → length hs + length (all_cells table) ≤ m → entry_count (originals hs table) ≤ m * length table
unfolding originals entry_count all_cells
originals_small m hs [] h = omega arith
originals_small m hs (r ∷ rs) h =
    let n = nexts_length (entries hs r) in
    let e = entries_count hs r in
    let l = length-append r.cells (all_cells rs) in
    omega (arith, originals_small m (nexts (entries hs r)) rs (omega arith), mul-suc m (length rs))

-- ---- spans

entries_wide : (hs : List Item) (r : cells.Row) → All Wide hs → All (λ c. 1 ≤ c.cols) r.cells → All Wide (entries hs r)
entries_wide hs r e f = row_wide 0 hs (map item_of r.cells) e (cells_wide r.cells f)

pub originals_wide : (hs : List Item) (table : List cells.Row) → All Wide hs → Spanned table → All (λ r. All Wide r.items) (originals hs table)
unfolding All originals
originals_wide hs [] e f = tt
originals_wide hs (r ∷ rs) e f =
    let w = entries_wide hs r e f.0 in
    (w, originals_wide (nexts (entries hs r)) rs (nexts_wide (entries hs r) w) f.1)

-- every entry of every row takes at least one position
pub rows_wide : (table : List cells.Row) → Spanned table → All (λ r. All Wide r.items) (all_rows table)
unfolding All
rows_wide table f = originals_wide [] table tt f

-- ---- where they end

pub not_past : (rs : List PositionRow) → ends_past rs ≡ false → All (λ r. items_end r.items ≤ max_position) rs
unfolding All ends_past
not_past [] p = tt
not_past (r ∷ rs) p = go (ltb max_position (items_end r.items)) refl (not_past rs)
  where
    go : (b : Bool) → ltb max_position (items_end r.items) ≡ b → (ends_past rs ≡ false → All (λ r. items_end r.items ≤ max_position) rs) → All (λ r. items_end r.items ≤ max_position) (r ∷ rs)
    go true t ih = cc (ap (λ (b : Bool). b || ends_past rs) t, p)
    go false t ih = (ltb-false max_position (items_end r.items) t, ih (sym (ap (λ (b : Bool). b || ends_past rs) t) ∙ p))

-- every row ends within 4,096 where none ends past it
pub rows_within : (table : List cells.Row) → ends_past (all_rows table) ≡ false → All (λ r. items_end r.items ≤ max_position) (all_rows table)
rows_within table p = not_past (all_rows table) p

-- ---- written entries

-- those of an original row are its cells
pub entries_written : (hs : List Item) (r : cells.Row) → All Filler hs → map unplaced (written (entries hs r)) ≡ map item_of r.cells
entries_written hs r e = row_written 0 hs (map item_of r.cells) e (cells_written r.cells) ∙ map-map unplaced item_of r.cells

abbrev pub owner_of : Item → ℕ
owner_of x = x.owner

pub entries_owners : (hs : List Item) (r : cells.Row) → All Filler hs → map owner_of (written (entries hs r)) ≡ map listed.cell_line r.cells
entries_owners hs r e =
    sym (map-map owner_of unplaced (written (entries hs r))) ∙ ap (map owner_of) (entries_written hs r e) ∙ map-map owner_of item_of r.cells

pub originals_written : (hs : List Item) (table : List cells.Row) → All Filler hs → map unplaced (written (all_items (originals hs table))) ≡ map item_of (all_cells table)
unfolding All originals all_items all_cells written
originals_written hs [] e = refl
originals_written hs (r ∷ rs) e =
    ap (map unplaced) (written_append (entries hs r) (all_items (originals (nexts (entries hs r)) rs)))
    ∙ map-append unplaced (written (entries hs r)) (written (all_items (originals (nexts (entries hs r)) rs)))
    ∙ ap₂ (λ (a b : List Item). a ++ b) (entries_written hs r e) (originals_written (nexts (entries hs r)) rs (nexts_fillers (entries hs r)))
    ∙ sym (map-append item_of r.cells (all_cells rs))

-- so those of all rows are all cells
pub rows_written : (table : List cells.Row) → map unplaced (written (all_items (all_rows table))) ≡ map item_of (all_cells table)
unfolding All
rows_written table = originals_written [] table tt

-- ---- positions

-- those of a row rise
pub originals_rise : (hs : List Item) (table : List cells.Row) → All Wide hs → Spanned table → Ascends 0 hs → All (λ r. Ascends 0 r.items) (originals hs table)
unfolding All originals
originals_rise hs [] e f a = tt
originals_rise hs (r ∷ rs) e f a =
    let u = row_ascends hs (map item_of r.cells) e (cells_wide r.cells f.0) a in
    (u, originals_rise (nexts (entries hs r)) rs (nexts_wide (entries hs r) (entries_wide hs r e f.0)) f.1 (nexts_ascends 0 (entries hs r) u))
