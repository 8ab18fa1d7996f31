-- The owner of a filler in the grid of a table: a cell of an earlier row of the same body. These are statements; proofs/Owned has their proofs.
use Rattle.std.specs.Prelude.{◌≡◌, true, List, [], ◌∷◌, ℕ, zero, suc, ◌+◌, ◌≤◌, ◌<◌, length, get_or, drop}
use Rattle.common.specs.Lists.{mem, All}
use Rattle.records.specs.NodeRecord.{no_node}
use Rattle.records.specs.declared.NodeRecord.{NodeRecord}
use Rattle.resolved_rows.specs.Cells.{bodies_of, resolved}
use Rattle.resolved_rows.specs.Cells as cells
use Rattle.resolved_rows.specs.Listed.{table_rows}
use Rattle.grid.specs.Grid.{GridRow, grid_of}
use Rattle.grid.specs.Facts.{cell_owners}

-- how many rows the first n bodies have
unfoldable pub rows_of : List (List cells.Row) → ℕ → ℕ
rows_of [] n = 0
rows_of (b ∷ bs) zero = 0
rows_of (b ∷ bs) (suc n) = length b + rows_of bs n

-- row i of the grid, rows and bodies counted from 0, is one of body n: those before it end before row i, and it ends after row i
pub record RowOf (bs : List (List cells.Row)) (n i : ℕ) : Type 0 where
  pub after : rows_of bs n ≤ i
  pub before : i < rows_of bs (suc n)

-- row i of a grid; none has entries past the last
abbrev pub row_at : List GridRow → ℕ → GridRow
row_at g i = get_or g i (record { line = 0; entries = [] })

-- the line o is that of a cell, an entry that is no filler, in an earlier row of the same body as row i
pub record CellAbove (bs : List (List cells.Row)) (g : List GridRow) (i o : ℕ) : Type 0 where
  pub body : ℕ
  pub here : RowOf bs body i
  pub row : ℕ
  pub above : row < i
  pub there : RowOf bs body row
  pub cell : mem o (cell_owners (row_at g row).entries) ≡ true

-- every filler of every row of a grid, the bodies of whose table are these, has such an owner
abbrev pub Owned : List (List cells.Row) → List GridRow → Type 0
Owned bs g = (i : ℕ) → i < length g → All (λ e. e.filler ≡ true → CellAbove bs g i e.owner) (row_at g i).entries

-- the bodies of the table whose line stands at the place `at`
abbrev pub bodies_at : List NodeRecord → ℕ → List (List cells.Row)
bodies_at ks at = bodies_of (get_or ks at no_node).depth (at + 1) (drop (at + 1) ks)

-- of the grid of any bodies, and of that of each table
pub record OwnersAbove : Type 0 where
  pub of_bodies : (bs : List (List cells.Row)) → Owned bs (grid_of (resolved bs))
  pub of_table : (ks : List NodeRecord) (at : ℕ) → Owned (bodies_at ks at) (grid_of (table_rows ks at))
