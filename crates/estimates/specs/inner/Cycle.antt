-- What the functions that walk over a sheet's lines take and promise.
use Rattle.std.specs.Prelude.{◌≡◌, Bool, true, false, List, map, ℕ, zero, suc, ◌+◌, ◌-◌, ◌≤◌, ◌<◌, length, get_or, drop}
use Rattle.common.specs.Lists.{sum}
use Rattle.common.specs.Limits.{max_position}
use Rattle.text.specs.declared.Estimate.{Estimate}
use Rattle.text.specs.Decimal.{shift}
use Rattle.kinds.specs.Kinds.{kind_number, table_kind, body_kind, row_kind, cell_kind, head_kind, ol_kind, is_leaf, is_frame}
use Rattle.records.specs.declared.NodeRecord.{NodeRecord}
use Rattle.records.specs.declared.Entry.{Entry}
use Rattle.records.specs.declared.RowEnd.{RowEnd}
use Rattle.grid.specs.Facts.{cell_lines}
use Rattle.grid.specs.Judging.{Lined}
use Rattle.estimates.specs.Estimates.{MeasuredNode, unmeasured, none, estimate, Children, no_children, gather, measured}
use Rattle.estimates.specs.inner.Tables.{TablesFit}
use Rattle.estimates.specs.inner.Sheet.{Sheet, line_at}
use Rattle.estimates.specs.Meets.{Bounded}
use Rattle.estimates.specs.declared.Part.{Part}

-- the children that a part combines
abbrev pub held_of : Part → Children
held_of p = record { est = estimate p.size p.least 0; count = p.children }

-- the number of a heading or a list is in its range, and so is the count of children
pub record Numbered (l : NodeRecord) (children : ℕ) : Type 0 where
  pub rank_low : kind_number l.kind ≡ head_kind → shift ≤ l.number
  pub rank_high : kind_number l.kind ≡ head_kind → l.number ≤ shift + 6
  pub start : kind_number l.kind ≡ ol_kind → l.number ≤ 2000000000
  pub few : children ≤ 4095

-- no figure of a part is so large that a prefix could make it overflow
pub record Fitting (p : Part) : Type 0 where
  pub size : p.size + 13 < 4294967296
  pub least_size : p.least ≤ p.size

abbrev pub est_at : List MeasuredNode → ℕ → Estimate
est_at es k = (get_or es k unmeasured).est

-- what the first n lines can come to at most: a line's own text, and 4,096 for its prefix or for the gaps between its columns
unfoldable pub weight : List NodeRecord → ℕ → ℕ
weight ls zero = 0
weight ls (suc n) = weight ls n + ((line_at ls n).own + 4096)

-- what a call at line `at` takes, in slices
pub record NodeReady (lines : List NodeRecord) (figures : List Estimate) (leasts : List ℕ) (entries : List Entry) (rows : List RowEnd) (at : ℕ) : Type 0 where
  pub sheet : Sheet lines
  pub lined : Lined lines
  pub tables : TablesFit lines (length entries)
  pub figures_fit : length lines ≤ length figures
  pub scratch : max_position ≤ length leasts
  pub row_capacity : length lines ≤ length rows
  pub within : at < length lines

-- what is below a line of depth d ends at r
abbrev pub Ends : List NodeRecord → ℕ → ℕ → Type 0
Ends ls d r = r < length ls → (line_at ls r).depth ≤ d

-- the lines after `at` up to r stand below it; the results from `lo` up to r are the estimates es, and the others are as they were
pub record Passed (ls : List NodeRecord) (es : List MeasuredNode) (b c : List Estimate) (at lo r : ℕ) : Type 0 where
  pub sized : length ls ≤ length c
  pub after : at < r
  pub within : r ≤ length ls
  pub deeper : (k : ℕ) → at < k → k < r → (line_at ls at).depth < (line_at ls k).depth
  pub kept : (k : ℕ) → k < lo → get_or c k none ≡ get_or b k none
  pub done : (k : ℕ) → lo ≤ k → k < r → get_or c k none ≡ est_at es k
  pub past : (k : ℕ) → r ≤ k → get_or c k none ≡ get_or b k none
  pub sound : (k : ℕ) → lo ≤ k → k < r → Bounded (est_at es k)

-- whether the line at i is a cell that holds anything: if not and it is a cell, it ends where it begins
pub record IsFilledPost (ls : List NodeRecord) (i : ℕ) (r : Bool) : Type 0 where
  pub cell : r ≡ true → kind_number (line_at ls i).kind ≡ cell_kind
  pub bare : r ≡ false → kind_number (line_at ls i).kind ≡ cell_kind → Ends ls (line_at ls i).depth (i + 1)

-- a line that `node` takes: no body, row or cell
abbrev pub Plain : NodeRecord → Type 0
Plain l = is_frame l.kind ≡ false

-- a line whose children `cell` combines
pub record Holder (l : NodeRecord) : Type 0 where
  pub leaf : is_leaf l.kind ≡ false
  pub table : kind_number l.kind ≡ table_kind → ⊥
  pub body : kind_number l.kind ≡ body_kind → ⊥
  pub row : kind_number l.kind ≡ row_kind → ⊥

-- the sheet's lines with their estimates, and the children of the line at `at` combined
abbrev pub done_of : ℕ → List NodeRecord → List MeasuredNode
done_of wrap ls = measured wrap 1 ls

abbrev pub held_at : ℕ → List NodeRecord → ℕ → Children
held_at wrap ls at = gather (line_at ls at).depth no_children (drop (at + 1) (done_of wrap ls))

-- the cells of a table of depth d, from place i on, and their sizes together
abbrev pub cells_from : List NodeRecord → ℕ → ℕ → List ℕ
cells_from ls d i = cell_lines d (suc i) (drop i ls)

abbrev pub size_in : ℕ → List NodeRecord → ℕ → ℕ
size_in wrap ls line = (est_at (done_of wrap ls) (line - 1)).size

abbrev pub sizes_of : ℕ → List NodeRecord → List ℕ → ℕ
sizes_of wrap ls lines = sum (map (size_in wrap ls) lines)

abbrev pub sizes_from : ℕ → List NodeRecord → ℕ → ℕ → ℕ
sizes_from wrap ls d i = sizes_of wrap ls (cells_from ls d i)

-- all below the table at `at` is measured, up to r, and its cells weigh no more than its lines
pub record BelowTablePost (wrap : ℕ) (ls : List NodeRecord) (b c : List Estimate) (at r : ℕ) : Type 0 where
  pub passed : Passed ls (done_of wrap ls) b c at (at + 1) r
  pub ends : Ends ls (line_at ls at).depth r
  pub small : sizes_from wrap ls (line_at ls at).depth (at + 1) + weight ls (at + 1) ≤ weight ls r

pub record NodeMeets (wrap : ℕ) (ls : List NodeRecord) (b c : List Estimate) (at r : ℕ) : Type 0 where
  pub passed : Passed ls (done_of wrap ls) b c at at r
  pub ends : Ends ls (line_at ls at).depth r
  pub small : (est_at (done_of wrap ls) at).size + weight ls at ≤ weight ls r

pub record CellPost (wrap : ℕ) (ls : List NodeRecord) (b c : List Estimate) (at : ℕ) (r : Part) : Type 0 where
  pub passed : Passed ls (done_of wrap ls) b c at (at + 1) r.after
  pub ends : Ends ls (line_at ls at).depth r.after
  pub held : held_of r ≡ held_at wrap ls at
  pub few : r.children + at < r.after
  pub small : r.size + weight ls (at + 1) ≤ weight ls r.after
  pub least_size : r.least ≤ r.size
