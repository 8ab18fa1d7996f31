-- A table's estimate by the entries of its grid, as records: what it reads, and what it makes of it.
use Rattle.std.specs.Prelude.{◌≡◌, cond, List, [], ◌∷◌, map, ℕ, ◌+◌, ◌-◌, ◌*◌, ◌/◌, ◌≤◌, ◌<◌, ◌^◌, eqb, length, get_or}
use Rattle.common.specs.Lists.{sum}
use Rattle.common.specs.Limits.{max_position}
use Rattle.text.specs.declared.Estimate.{Estimate}
use Rattle.records.specs.inner.NodeRecord.{no_entry}
use Rattle.records.specs.declared.NodeRecord.{NodeRecord}
use Rattle.records.specs.declared.Entry.{Entry}
use Rattle.columns.specs.Boxes.{Box, box}
use Rattle.columns.specs.Columns.{least_of, largest}
use Rattle.resolved_rows.specs.Listed.{table_rows}
use Rattle.grid_positions.specs.Positions.{all_rows, entry_count}
use Rattle.grid.specs.Grid as grid
use Rattle.grid.specs.Grid.{grid_of}
use Rattle.grid.specs.Facts.{Sound, CellOf}
use Rattle.grid.specs.Judging.{Lined, shown}
use Rattle.estimates.specs.Estimates.{estimate, none}

-- ---- a table by boxes

-- what boxes add to all their columns together: span times size / span each
unfoldable pub spread_cells : List Box → ℕ
spread_cells [] = 0
spread_cells (b ∷ bs) = b.span * (b.size / b.span) + spread_cells bs

unfoldable pub tabled_by : ℕ → List Box → Estimate
tabled_by columns bs =
    cond (eqb columns 0) none (estimate (spread_cells bs + (columns - 1)) (sum (largest least_of bs columns) + (columns - 1)) 0)

-- the sum r, and a figure for each of n columns
pub record SpreadEntriesPost (bs : List Box) (n r : ℕ) (columns : List ℕ) : Type 0 where
  pub all : r ≡ spread_cells bs
  pub leasts : columns ≡ largest least_of bs n

pub record Tabulated (columns : ℕ) (bs : List Box) (r : Estimate) : Type 0 where
  pub est : r ≡ tabled_by columns bs
  pub least_size : r.least ≤ r.size

-- ---- the boxes of entries

-- an entry with the estimate of its cell
abbrev pub entry_box : List Estimate → Entry → Box
entry_box es e = box e.first e.span (get_or es (e.cell - 1) none).size (get_or es (e.cell - 1) none).least

-- those of entries, without fillers
unfoldable pub entry_boxes : List Estimate → List Entry → List Box
entry_boxes es [] = []
entry_boxes es (e ∷ xs) = cond (eqb e.cell 0) (entry_boxes es xs) (entry_box es e ∷ entry_boxes es xs)

-- an entry that is no filler spans a column and ends within the columns, and its cell has an estimate
pub record EntryFits (es : List Estimate) (columns : ℕ) (e : Entry) : Type 0 where
  pub some : (e.cell ≡ 0 → ⊥) → 1 ≤ e.span
  pub ends : (e.cell ≡ 0 → ⊥) → e.first + e.span ≤ columns
  pub measured : e.cell ≤ length es
  pub sound : (e.cell ≡ 0 → ⊥) → (get_or es (e.cell - 1) none).least ≤ (get_or es (e.cell - 1) none).size

-- what entries come to together fits 32 bits, with the gaps between columns
pub record SpreadEntriesPre (entries : List Entry) (figures : List Estimate) (columns : ℕ) : Type 0 where
  pub fit : (k : ℕ) → k < length entries → EntryFits figures columns (get_or entries k no_entry)
  pub capacity : spread_cells (entry_boxes figures entries) + max_position ≤ 2 ^ 32

-- besides, there is scratch for the columns
pub record TabulatePre (entries : List Entry) (columns : ℕ) (figures : List Estimate) (scratch : ℕ) : Type 0 where
  pub spread : SpreadEntriesPre entries figures columns
  pub few : columns ≤ max_position
  pub capacity : max_position ≤ scratch

-- ---- the table at a place

-- the entries of its grid, as records
abbrev pub records_at : List NodeRecord → ℕ → List Entry
records_at ks at = map shown (grid.entries_of (grid_of (table_rows ks at)))

-- its cells are measured, and there is scratch for its columns, entries and rows
pub record TableFiguresPre (ks : List NodeRecord) (at : ℕ) (es : List Estimate) (scratch entries rows : ℕ) : Type 0 where
  pub within : at < length ks
  pub lined : Lined ks
  pub sound : Sound (table_rows ks at)
  pub measured : length ks ≤ length es
  pub bounded : (k : ℕ) → CellOf ks at k → (get_or es k none).least ≤ (get_or es k none).size
  pub capacity : spread_cells (entry_boxes es (records_at ks at)) + max_position ≤ 2 ^ 32
  pub column_capacity : max_position ≤ scratch
  pub entry_capacity : entry_count (all_rows (table_rows ks at)) ≤ entries
  pub row_capacity : length ks ≤ rows
