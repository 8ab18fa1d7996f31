-- The grid of a table of a measured sheet can be laid out, and what is laid out are the boxes of the definition. Its rows tile the columns, its cells
-- are later lines, whose estimates stand among the figures, and no least passes its size.
use mathlib.Core.Path.{◌≡◌, sym, ap, ◌∙◌}
use mathlib.Core.List.{List, [], ◌∷◌, ◌++◌, map}
use Prim.Native.Nat.{ℕ, ◌+◌, ◌-◌, ◌≤◌, ◌<◌}
use native.Mathlib.Omega.{arith}
use lib.ListN.{length, get_or, take, replicate, length-replicate, get_or-map}
use lib.Seq.{length-take-le, get_or-take, take_at}
use Rattle.common.specs.Lists.{All}
use Rattle.common.proofs.All.{all_weaken}
use Rattle.text.specs.declared.Estimate.{Estimate}
use Rattle.records.specs.NodeRecord.{no_node}
use Rattle.records.specs.declared.NodeRecord.{NodeRecord}
use Rattle.records.specs.declared.Entry as records
use Rattle.records.specs.declared.RowEnd.{RowEnd}
use Rattle.resolved_rows.specs.Cells as cells
use Rattle.resolved_rows.specs.Listed.{table_rows}
use Rattle.grid.specs.Grid.{Entry, GridRow, grid_of, columns_of, entries_of}
use Rattle.grid.specs.Facts.{CellOf}
use Rattle.grid.proofs.GridCells.{IsCell, entries_cells}
use Rattle.grid.proofs.GridFacts.{held_spanned, grid_tiles, grid_columns}
use Rattle.estimates.specs.Meets as meets
use Rattle.estimates.specs.Estimates.{MeasuredNode, none, unmeasured, est_of, estimates, measured}
use Rattle.grid_build.specs.inner.Records.{TableMade}
use Rattle.grid_build.specs.inner.Cut.{RecordsPost}
use Rattle.grid_build.proofs.Cut.{made_records}
use Rattle.grid_build.specs.declared.Counts.{Counts}
use Rattle.widths.specs.declared.Laid.{Laid}
use Rattle.table_layout.specs.inner.Laying.{box_rows_by, LaidTable}
use Rattle.columns.specs.Boxes.{flat}
use Rattle.columns.specs.inner.Boxes.{TilesAll}
use Rattle.column_sizes.specs.inner.Sizing.{entry_box}
use Rattle.column_sizes.specs.inner.Capacity.{Entered}
use Rattle.table_layout.proofs.Steps.{entered, rows_flat}
use Rattle.table_layout.specs.inner.Grids.{RowTiles, Known, RowKnown, Listed}
use Rattle.table_layout.proofs.Table.{entry_count, table_rows_lem, table_layable, table_laid}
use Rattle.table_layout.specs.Arranging.{TableMeasured, TableKnown, AllMeasured, boxes_at}
use Rattle.table_layout.specs.inner.Arranging.{CellsAre, ArrangePost}
use Rattle.table_layout.specs.inner.Capacity.{LayPre, ArrangePre}

-- what holds of all entries holds row by row
rows_all : (P : Entry → Type 0) (g : List GridRow) → All P (entries_of g) → All (λ r. All P r.entries) g
unfolding All entries_of
rows_all P [] a = tt
rows_all P (r ∷ rs) a = let (b, c) = part r.entries a in (b, rows_all P rs c)
  where
    part : (es : List Entry) → All P (es ++ entries_of rs) → All P es × All P (entries_of rs)
    part [] a = (tt, a)
    part (e ∷ es) a = let (b, c) = part es a.1 in ((a.0, b), c)

module _ {ks : List NodeRecord} {figures : List Estimate} {at : ℕ} (k : TableKnown ks figures at) where
  abbrev table : List cells.Row
  table = table_rows ks at

  abbrev g : List GridRow
  g = grid_of table

  tiles : All (RowTiles (columns_of table)) g
  tiles = grid_tiles table k.sound (held_spanned ks at)

  -- its cells are later lines, and so far as their estimates are those of a list, they stand among the figures
  known_in : (all : List MeasuredNode) → ((j : ℕ) → CellOf ks at j → get_or figures j none ≡ (get_or all j unmeasured).est) → All (RowKnown (at + 1) all figures) g
  known_in all e =
      rows_all (Known (at + 1) all figures) g
      (all_weaken (IsCell ks at) (Known (at + 1) all figures)
      (λ x p. record {
        later = λ h. omega (arith, (p h).1.before, (p h).0);
        within = λ h. omega (arith, (p h).1.within, (p h).0, k.measured.enough);
        figure = λ h. e (x.owner - 1) (p h).1;
        fits = λ h. rw (← e (x.owner - 1) (p h).1) (k.measured.fits (x.owner - 1) (p h).1);
      })
      (entries_of g) (entries_cells k.lined at k.within))

  -- at any wrap at which the figures are the cells' estimates
  known_at : (wrap : ℕ) → CellsAre wrap ks at figures → All (RowKnown (at + 1) (measured wrap 1 ks) figures) g
  known_at wrap e = known_in (measured wrap 1 ks) (λ j c. e.cells j c ∙ get_or-map est_of (measured wrap 1 ks) j unmeasured)

  -- they are those of the figures themselves
  abbrev done : Estimate → MeasuredNode
  done f = record { est = f; line = no_node }

  known_here : All (RowKnown (at + 1) (map done figures) figures) g
  known_here = known_in (map done figures) (λ j c. ap est_of (sym (get_or-map done figures j none)))

  module _ {counts : Counts} {es : List records.Entry} {rs : List RowEnd} (w : TableMade table counts es rs)
      {entries : List records.Entry} {rows : List RowEnd} {columns : ℕ} (p : RecordsPost counts es rs entries rows columns) where
    listed : Listed g entries rows
    listed = record { entries = (made_records w p).entries_are; rows = (made_records w p).rows_are }

    entries_length : length entries ≡ counts.entries
    entries_length = entry_count listed ∙ sym w.entries_are

    -- the table made can be laid out in the front of slices
    pub made_layable : {width : ℕ} {column x wide : List ℕ} → ArrangePre table width column x wide
        → LayPre entries rows figures width (take counts.columns column) (take counts.entries x) (take counts.entries wide)
    made_layable {column = column} {x = x} {wide = wide} r =
        table_layable (map done figures) figures listed (at + 1) known_here (columns_of table) tiles
        (length-take-le counts.columns column (omega (arith, w.columns_are, r.column_capacity)) ∙ w.columns_are)
        (length-take-le counts.entries x (omega (arith, w.entries_are, r.x_capacity)) ∙ sym entries_length)
        (length-take-le counts.entries wide (omega (arith, w.entries_are, r.wide_capacity)) ∙ sym entries_length)
        (grid_columns table k.sound) r.small

    layable_any : LayPre entries rows figures 0 (replicate (columns_of table) 0) (replicate (length entries) 0) (replicate (length entries) 0)
    layable_any =
        let n = length-replicate {A = ℕ} (length entries) 0 in
        table_layable (map done figures) figures listed (at + 1) known_here (columns_of table) tiles (length-replicate {A = ℕ} (columns_of table) 0) n n (grid_columns table k.sound) (omega arith)

    columns_same : length {A = ℕ} (replicate (columns_of table) 0) ≡ columns
    columns_same = length-replicate {A = ℕ} (columns_of table) 0 ∙ sym (made_records w p).columns_are

    -- its entries are whole in its columns, and its rows tile them and hold every box
    pub made_entered : Entered entries figures columns
    made_entered = rw columns_same at (entered layable_any)

    pub made_tiles : TilesAll columns (box_rows_by rows entries figures)
    made_tiles = rw columns_same at layable_any.tiles

    pub made_flat : flat (box_rows_by rows entries figures) ≡ map (entry_box figures) entries
    made_flat = rows_flat layable_any

    -- the rows of its boxes are those of the definition
    pub made_rows : (wrap : ℕ) → CellsAre wrap ks at figures → box_rows_by rows entries figures ≡ boxes_at wrap ks at
    made_rows wrap e = table_rows_lem (measured wrap 1 ks) figures listed (at + 1) (known_at wrap e)

    -- and what is laid out there, before what else the slices hold, is the table of the definition
    pub made_laid : {raw width : ℕ} {column₀ x₀ wide₀ column x wide : List ℕ} {laid : Laid} → ArrangePre table width column₀ x₀ wide₀
        → LaidTable (length (take counts.columns column₀)) (box_rows_by rows entries figures) raw width column x wide laid
        → length column ≡ length (take counts.columns column₀) → length x ≡ length (take counts.entries x₀) → length wide ≡ length (take counts.entries wide₀)
        → (u v z : List ℕ) → ArrangePost ks at figures raw width es rs (column ++ u) (x ++ v) (wide ++ z) counts laid
    made_laid {column₀ = column₀} {x₀ = x₀} {wide₀ = wide₀} {column = column} {x = x} {wide = wide} r l cs xs ws u v z = record {
      made = w;
      laid = λ wrap e.
          let c = length-take-le counts.columns column₀ (omega (arith, w.columns_are, r.column_capacity)) in
          let q = table_laid (measured wrap 1 ks) figures listed (at + 1) (known_at wrap e) (c ∙ w.columns_are) l in
          rw (
            take_at column u (columns_of table) (cs ∙ c ∙ w.columns_are),
            take_at x v (length (entries_of g)) (xs ∙ length-take-le counts.entries x₀ (omega (arith, w.entries_are, r.x_capacity)) ∙ w.entries_are),
            take_at wide z (length (entries_of g)) (ws ∙ length-take-le counts.entries wide₀ (omega (arith, w.entries_are, r.wide_capacity)) ∙ w.entries_are),
          ) q;
    }

-- the lines as `sheet_load::measuring::measure_sheet` leaves them (the fields of its LinesMeasured) are measured
pub all_measured : (wrap : ℕ) (ks : List NodeRecord) (figures : List Estimate) → take (length ks) figures ≡ estimates wrap ks → length ks ≤ length figures
    → ((k : ℕ) → k < length ks → meets.Bounded (get_or (estimates wrap ks) k none)) → AllMeasured ks figures
all_measured wrap ks figures e n f = record { wrap = wrap; figures_are = e; enough = n; fits = λ k h. (f k h).least_size }

-- where all lines are measured, the cells of a table are
pub all_cells : {ks : List NodeRecord} {figures : List Estimate} (at wrap : ℕ) → take (length ks) figures ≡ estimates wrap ks → CellsAre wrap ks at figures
all_cells {ks} {figures} at wrap e = record { cells = λ k c. sym (get_or-take (length ks) figures k none c.within) ∙ ap (λ (fs : List Estimate). get_or fs k none) e }

pub all_table : {ks : List NodeRecord} {figures : List Estimate} (at : ℕ) → AllMeasured ks figures → TableMeasured ks at figures
all_table at m = record {
  enough = m.enough;
  fits = λ k c. rw ((all_cells at m.wrap m.figures_are).cells k c) (m.fits k c.within);
}
