-- The boxes of a grid's records are the boxes of the definition. The rows' ends take the entries apart where the grid's rows end. An entry's line
-- counts from the sheet's first line, and the definition's place from the line after the table; both name the same line, because a cell stands
-- after its table.
use mathlib.Core.Path.{◌≡◌, refl, sym, ap, ap₂, ◌∙◌}
use mathlib.Core.Bool.{Bool, true, false, true≢false}
use mathlib.Core.List.{List, [], ◌∷◌, ◌++◌, map, map-append, map-map}
use Prim.Native.Nat.{ℕ, suc, ◌+◌, ◌-◌, ◌≤◌, ◌<◌}
use native.Mathlib.Omega.{arith}
use lib.ListN.{length, get_or, take, drop, length-append, length-map, get_or-map}
use lib.Seq.{take_at, drop_at, get_or-drop}
use borrow.Author.Tests.{ne_eqb}
use Rattle.common.specs.Lists.{All}
use Rattle.text.specs.declared.Estimate.{Estimate}
use Rattle.records.specs.inner.NodeRecord.{no_entry}
use Rattle.common.proofs.Tiles.{tiles_map}
use Rattle.common.proofs.All.{all_append, all_weaken, at_any, map_same}
use Rattle.columns.specs.Boxes.{Box, box}
use Rattle.columns.specs.inner.Boxes.{box_first, box_span, rows_by, BoxesTile, Measures, TilesAll}
use Rattle.grid.specs.Grid.{Entry, GridRow, entry, shown_line, entries_of}
use Rattle.grid.specs.Facts.{EntriesTile}
use Rattle.estimates.specs.Estimates.{MeasuredNode, none, unmeasured, est_of, box_of, box_row, box_rows}
use Rattle.placement.specs.inner.Rows.{Ascends}
use Rattle.records.specs.inner.Figures.{row_end}
use Rattle.grid.specs.Judging.{shown}
use Rattle.grid_build.specs.inner.Records.{ended_rows}
use Rattle.column_sizes.specs.inner.Sizing.{figure_at, entry_box}
use Rattle.table_layout.specs.inner.Grids.{RowTiles, Fits, Known, RowKnown}

-- the rows' ends take a list of all entries apart into the grid's rows
pub rows_apart : (f : Entry → Box) (n : ℕ) (g : List GridRow) →
    rows_by n (map row_end (ended_rows n g)) (map f (entries_of g)) ≡ map (λ (r : GridRow). map f r.entries) g
unfolding rows_by ended_rows entries_of
rows_apart f n [] = refl
rows_apart f n (r ∷ g) =
    let k : length (map f r.entries) ≡ n + length r.entries - n = omega (arith, length-map r.entries f) in
    let a = map-append f r.entries (entries_of g) in
    ap₂ (λ (xs : List Box) (rest : List (List Box)). xs ∷ rest)
    (ap (take (n + length r.entries - n)) a ∙ take_at (map f r.entries) (map f (entries_of g)) (n + length r.entries - n) k)
    (ap (λ (bs : List Box). rows_by (n + length r.entries) (map row_end (ended_rows (n + length r.entries) g)) bs)
    (ap (drop (n + length r.entries - n)) a ∙ drop_at (map f r.entries) (map f (entries_of g)) (n + length r.entries - n) k)
    ∙ rows_apart f (n + length r.entries) g)

-- the rows' ends ascend to the number of entries
pub ends_ascend : (n : ℕ) (g : List GridRow) → Ascends n (map row_end (ended_rows n g)) (n + length (entries_of g))
unfolding Ascends ended_rows entries_of
ends_ascend n [] = omega arith
ends_ascend n (r ∷ g) =
    let e : n + length (r.entries ++ entries_of g) ≡ n + length r.entries + length (entries_of g) =
    omega (arith, length-append r.entries (entries_of g)) in
    (omega arith, rw e (ends_ascend (n + length r.entries) g))

-- an entry as its record, with the figures of its line
abbrev box_shown : List Estimate → Entry → Box
box_shown figures e = entry_box figures (shown e)

-- ---- the rows of a grid's boxes tile the columns, as its entries do, and no box is wider at the least than in full

module _ (t : ℕ) (rest : List MeasuredNode) where
  abbrev BoxFits : Entry → Type 0
  BoxFits e = (box_of t rest e).least ≤ (box_of t rest e).size

  abbrev RowFits : GridRow → Type 0
  RowFits r = All BoxFits r.entries

  row_tiles : (columns p : ℕ) (es : List Entry) → EntriesTile columns p es → BoxesTile columns p (map (box_of t rest) es)
  unfolding box_of
  row_tiles columns p es h = tiles_map box_first box_span (box_of t rest) columns p es h

  row_measures : (es : List Entry) → All BoxFits es → Measures (map (box_of t rest) es)
  unfolding Measures All
  row_measures [] f = tt
  row_measures (e ∷ es) f = (f.0, row_measures es f.1)

  tiles_fitting : (columns : ℕ) (g : List GridRow) → All (RowTiles columns) g → All RowFits g → TilesAll columns (box_rows t rest g)
  unfolding TilesAll All
  tiles_fitting columns [] h f = tt
  tiles_fitting columns (r ∷ g) h f = (row_tiles columns 0 r.entries h.0, row_measures r.entries f.0, tiles_fitting columns g h.1 f.1)

  -- where no line is wider at the least than in full
  box_fits : All Fits rest → (e : Entry) → BoxFits e
  unfolding box_of
  box_fits f e = go e.filler refl
    where
      go : (b : Bool) → e.filler ≡ b → (box_of t rest e).least ≤ (box_of t rest e).size
      go true h = rw h (omega arith)
      go false h = rw h (at_any Fits unmeasured rest (e.owner - suc t) (omega arith) f)

  rows_fit : All Fits rest → (g : List GridRow) → All RowFits g
  unfolding All
  rows_fit f [] = tt
  rows_fit f (r ∷ g) = (each r.entries, rows_fit f g)
    where
      each : (es : List Entry) → All BoxFits es
      each [] = tt
      each (e ∷ es) = (box_fits f e, each es)

  pub tiles_of_grid : (columns : ℕ) (g : List GridRow) → All (RowTiles columns) g → All Fits rest → TilesAll columns (box_rows t rest g)
  tiles_of_grid columns g h f = tiles_fitting columns g h (rows_fit f g)

-- ---- the boxes of a table's records, where the estimates of its cells are known

module _ (all : List MeasuredNode) (figures : List Estimate) (t : ℕ) where
  -- the figures of a cell after line t, by its number and by its place after t
  figure_at_lem : (line : ℕ) → t < line → get_or figures (line - 1) none ≡ (get_or all (line - 1) unmeasured).est → figure_at figures line ≡ (get_or (drop t all) (line - suc t) unmeasured).est
  figure_at_lem line h q =
      let e : t + (line - suc t) ≡ line - 1 = omega arith in
      rw (ne_eqb line 0 (λ q. omega arith)) (q ∙ ap est_of (sym (get_or-drop t all (line - suc t) unmeasured ∙ ap (λ (k : ℕ). get_or all k unmeasured) e)))

  entry_box_lem : (e : Entry) → Known t all figures e → box_shown figures e ≡ box_of t (drop t all) e
  unfolding box_of
  entry_box_lem e l = go e.filler refl
    where
      go : (b : Bool) → e.filler ≡ b → box_shown figures e ≡ box_of t (drop t all) e
      go true h = rw h
      go false h = rw h (ap (λ (f : Estimate). box e.first e.span f.size f.least) (figure_at_lem e.owner (l.later h) (l.figure h)))

  -- the boxes of a table's records are those of its grid with the lines after it
  pub boxes_of_grid : (g : List GridRow) → All (RowKnown t all figures) g →
      rows_by 0 (map row_end (ended_rows 0 g)) (map (entry_box figures) (map shown (entries_of g))) ≡ box_rows t (drop t all) g
  boxes_of_grid g l =
      ap (rows_by 0 (map row_end (ended_rows 0 g))) (map-map (entry_box figures) shown (entries_of g))
      ∙ rows_apart (box_shown figures) 0 g
      ∙ map_same _ (box_row t (drop t all)) g
      (all_weaken (RowKnown t all figures) _ (λ r a. map_same _ (box_of t (drop t all)) r.entries (all_weaken (Known t all figures) _ entry_box_lem r.entries a)) g l)

  -- each line is one of the figures', or 0

  shown_within : (e : Entry) → Known t all figures e → shown_line e ≤ length figures
  shown_within e l = go e.filler refl
    where
      go : (b : Bool) → e.filler ≡ b → shown_line e ≤ length figures
      go true h = rw h (omega arith)
      go false h = rw h (l.within h)

  known_entries : (g : List GridRow) → All (RowKnown t all figures) g → All (Known t all figures) (entries_of g)
  unfolding All entries_of
  known_entries [] l = tt
  known_entries (r ∷ g) l = all_append (Known t all figures) r.entries (entries_of g) l.0 (known_entries g l.1)

  abbrev filling : Entry
  filling = entry 0 true 0 0

  filling_known : Known t all figures filling
  filling_known = record { later = λ h. absurd (true≢false h); within = λ h. absurd (true≢false h); figure = λ h. absurd (true≢false h); fits = λ h. absurd (true≢false h) }

  pub lines_within : (g : List GridRow) → All (RowKnown t all figures) g → (i : ℕ) → (get_or (map shown (entries_of g)) i no_entry).cell ≤ length figures
  lines_within g l i =
      rw (get_or-map shown (entries_of g) i filling)
      (shown_within (get_or (entries_of g) i filling) (at_any (Known t all figures) filling (entries_of g) i filling_known (known_entries g l)))

  -- the rows of the boxes tile the columns
  known_fits : (e : Entry) → Known t all figures e → (box_of t (drop t all) e).least ≤ (box_of t (drop t all) e).size
  unfolding box_of
  known_fits e l = go e.filler refl
    where
      go : (b : Bool) → e.filler ≡ b → (box_of t (drop t all) e).least ≤ (box_of t (drop t all) e).size
      go true h = rw h (omega arith)
      go false h =
          let k : t + (e.owner - suc t) ≡ e.owner - 1 = omega (arith, l.later h) in
          rw h (rw (get_or-drop t all (e.owner - suc t) unmeasured ∙ ap (λ (i : ℕ). get_or all i unmeasured) k) (l.fits h))

  pub tiles_known : (columns : ℕ) (g : List GridRow) → All (RowTiles columns) g → All (RowKnown t all figures) g → TilesAll columns (box_rows t (drop t all) g)
  tiles_known columns g h k =
      tiles_fitting t (drop t all) columns g h
      (all_weaken (RowKnown t all figures) _ (λ r a. all_weaken (Known t all figures) _ known_fits r.entries a) g k)
