-- A step of the walk, and what is asked for and left in slices.
use Rattle.common.specs.declared.Refusal.{Refusal}
use Rattle.std.specs.Prelude.{◌≡◌, cond, List, [], ◌∷◌, ℕ, ◌-◌, ◌≤◌, ◌<◌, eqb, length, get_or, set, take, Ok, Result, None, Option, Some}
use Prim.{Unit}
use Rattle.common.specs.Limits.{max_lines, max_entries, max_position, max_size}
use Rattle.common.specs.Refusals.{verdict_of}
use Rattle.text.specs.declared.Estimate.{Estimate}
use Rattle.kinds.specs.Kinds.{kind_number, table_kind, cell_kind}
use Rattle.records.specs.NodeRecord.{no_node}
use Rattle.records.specs.inner.NodeRecord.{no_entry}
use Rattle.records.specs.declared.NodeRecord.{NodeRecord}
use Rattle.records.specs.declared.Entry.{Entry}
use Rattle.records.specs.declared.RowEnd.{RowEnd}
use Rattle.resolved_rows.specs.Listed.{table_rows}
use Rattle.grid.specs.Facts.{Sound, CellOf}
use Rattle.grid.specs.Judging.{Lined}
use Rattle.estimates.specs.Estimates.{none, estimates}
use Rattle.estimates.specs.inner.Sheet.{Sheet}
use Rattle.table_layout.specs.Arranging.{AllMeasured}
use Rattle.available_width.specs.Walk.{passed_on, printed, cell_width, walk, narrow_checks}

-- ---- what is walked

-- a measured sheet, none of whose tables is refused
pub record Walkable (ks : List NodeRecord) (figures : List Estimate) : Type 0 where
  pub lined : Lined ks
  pub sheet : Sheet ks
  pub sound : (t : ℕ) → t < length ks → kind_number (get_or ks t no_node).kind ≡ table_kind → Sound (table_rows ks t)
  pub measured : AllMeasured ks figures
  pub small : (k : ℕ) → k < length ks → (get_or figures k none).least ≤ max_size

-- ---- slices

-- the slices that every table is laid out in: its entries and rows as records, its columns, and two figures of each entry
pub record ScratchCapacity (entries : List Entry) (rows : List RowEnd) (column x wide : List ℕ) : Type 0 where
  pub entry_capacity : max_entries ≤ length entries
  pub row_capacity : max_lines ≤ length rows
  pub column_capacity : max_position ≤ length column
  pub x_capacity : max_entries ≤ length x
  pub wide_capacity : max_entries ≤ length wide

-- ---- a table's cells

-- each entry's width at the place of its cell's line; an entry of line 0, a filler, has none
unfoldable pub printed_by : List ℕ → List ℕ → List (Option ℕ) → List (Option ℕ)
printed_by [] vs ps = ps
printed_by (c ∷ cs) [] ps = ps
printed_by (c ∷ cs) (v ∷ vs) ps =
    cond (eqb c 0) (printed_by cs vs ps) (set (printed_by cs vs ps) (c - 1) (printed v))

-- what storing them takes
pub record PrintCellsPre (es : List Entry) (wide : List ℕ) (ps : List (Option ℕ)) : Type 0 where
  pub wide_in : length es ≤ length wide
  pub capacity : (k : ℕ) → k < length es → (get_or es k no_entry).cell ≤ length ps

-- a width at which a table can be laid out
unfoldable pub AtMost : ℕ → Option ℕ → Type 0
AtMost m None = Unit {0}
AtMost m (Some w) = w ≤ m

-- a line of a sheet that is walked, and its width
pub record HandOutPre (ks : List NodeRecord) (t : ℕ) (w : Option ℕ) : Type 0 where
  pub within : t < length ks
  pub small : AtMost max_size w

-- a cell of the line at t, where that is a table
abbrev pub CellIn : List NodeRecord → ℕ → ℕ → Type 0
CellIn ks t i = (kind_number (get_or ks t no_node).kind ≡ table_kind) × CellOf ks t i

-- the table at place t that has this width gives its cells theirs, where they had none; what else was there stays
pub record HandOutPost (ks : List NodeRecord) (t : ℕ) (figures : List Estimate) (raw : ℕ) (w : Option ℕ) (ps₀ ps : List (Option ℕ)) : Type 0 where
  pub cell : (wrap : ℕ) → take (length ks) figures ≡ estimates wrap ks → (i : ℕ) → CellIn ks t i → get_or ps₀ i None ≡ None
      → get_or ps i None ≡ cell_width wrap raw ks t w i
  pub other : (i : ℕ) → (CellIn ks t i → ⊥) → get_or ps i None ≡ get_or ps₀ i None

-- ---- one line

-- its width, by what stands at its place and what the nearest line of each depth passes on
abbrev pub own_width : ℕ → ℕ → NodeRecord → List (Option ℕ) → List (Option ℕ) → Option ℕ
own_width root i k ps qs = cond (eqb i 0) (Some root) (cond (eqb (kind_number k.kind) cell_kind) (get_or ps i None) (get_or qs (k.depth - 1) None))

-- the line at place i is one of the sheet's, and its depth has a place
pub record StepPre (lines : List NodeRecord) (figures : List Estimate) (walk passed : List (Option ℕ)) (i : ℕ) : Type 0 where
  pub within : i < length lines
  pub figure_in : i < length figures
  pub place_in : i < length walk
  pub depth_in : (get_or lines i no_node).depth < length passed

pub record StepPost (ks : List NodeRecord) (figures : List Estimate) (root i : ℕ) (w : Option ℕ) (ps₀ qs₀ ps qs : List (Option ℕ)) : Type 0 where
  pub width_is : w ≡ own_width root i (get_or ks i no_node) ps₀ qs₀
  pub written : ps ≡ set ps₀ i w
  pub passes : qs ≡ set qs₀ (get_or ks i no_node).depth (passed_on (get_or ks i no_node).kind (get_or figures i none) w)

-- ---- the walk

-- places for the lines, without any width yet
pub record WalkLinesPre (lines : ℕ) (ps : List (Option ℕ)) : Type 0 where
  pub line_capacity : lines ≤ length ps
  pub no_width : (i : ℕ) → get_or ps i None ≡ None

-- the answer, and where it is accepted the width of each line, at which a table can be laid out
pub record Walked (ks : List NodeRecord) (figures : List Estimate) (raw root overflow : ℕ) (r : Result (Unit {0}) Refusal) (ps : List (Option ℕ)) : Type 0 where
  pub answer : (wrap : ℕ) → take (length ks) figures ≡ estimates wrap ks → r ≡ verdict_of (narrow_checks wrap raw root overflow ks)
  pub widths : (wrap : ℕ) → take (length ks) figures ≡ estimates wrap ks → r ≡ (Ok tt) → take (length ks) ps ≡ walk wrap raw root ks
  pub small : (wrap : ℕ) → take (length ks) figures ≡ estimates wrap ks → r ≡ (Ok tt) → (k : ℕ) → AtMost max_size (get_or (walk wrap raw root ks) k None)
