-- A table's grid and the estimates of its cells, as the records that it is laid out from.
use Rattle.std.specs.Prelude.{◌≡◌, false, List, map, ℕ, ◌-◌, ◌≤◌, ◌<◌, length, get_or}
use Rattle.common.specs.Lists.{All}
use Rattle.text.specs.declared.Estimate.{Estimate}
use Rattle.records.specs.declared.Entry as records
use Rattle.records.specs.declared.RowEnd.{RowEnd}
use Rattle.grid.specs.Grid.{Entry, GridRow, entries_of}
use Rattle.grid.specs.Facts.{EntriesTile}
use Rattle.estimates.specs.Estimates.{MeasuredNode, none, unmeasured}
use Rattle.grid.specs.Judging.{shown}
use Rattle.grid_build.specs.inner.Records.{ended_rows}

-- the row's entries tile the columns from 0 on
abbrev pub RowTiles : ℕ → GridRow → Type 0
RowTiles columns r = EntriesTile columns 0 r.entries

-- no line is wider at the least than in full
abbrev pub Fits : MeasuredNode → Type 0
Fits m = m.est.least ≤ m.est.size

-- an entry of the table in line t that is no filler is a cell of a later line, whose estimate stands among the figures; its least does not pass its size
pub record Known (t : ℕ) (all : List MeasuredNode) (figures : List Estimate) (e : Entry) : Type 0 where
  pub later : e.filler ≡ false → t < e.owner
  pub within : e.filler ≡ false → e.owner ≤ length figures
  pub figure : e.filler ≡ false → get_or figures (e.owner - 1) none ≡ (get_or all (e.owner - 1) unmeasured).est
  pub fits : e.filler ≡ false → (get_or all (e.owner - 1) unmeasured).est.least ≤ (get_or all (e.owner - 1) unmeasured).est.size

abbrev pub RowKnown : ℕ → List MeasuredNode → List Estimate → GridRow → Type 0
RowKnown t all figures r = All (Known t all figures) r.entries

-- the records of a grid's entries and rows
pub record Listed (g : List GridRow) (es : List records.Entry) (rs : List RowEnd) : Type 0 where
  pub entries : es ≡ map shown (entries_of g)
  pub rows : rs ≡ ended_rows 0 g
