-- Which cells can go missing: what holds of every table of every accepted sheet, at every wrap, raw and width that is allowed.
-- These are statements; proofs/Missing.antt has their proofs, under the same names.
use Rattle.std.specs.Prelude.{◌≡◌, true, List, map, ℕ, ◌+◌, ◌-◌, ◌*◌, ◌≤◌, ◌<◌, length, get_or, Ok}
use Rattle.common.specs.Lists.{sum}
use Rattle.common.specs.Limits.{max_wrap, max_size}
use Rattle.common.specs.Refusals.{verdict_of}
use Rattle.kinds.specs.Kinds.{kind_number, table_kind, link_kind, has_text}
use Rattle.records.specs.Parents.{Parent}
use Rattle.records.specs.NodeRecord.{no_node}
use Rattle.records.specs.declared.NodeRecord.{NodeRecord}
use Rattle.columns.specs.Boxes.{Box, box, flat}
use Rattle.grid.specs.Grid.{shown_line, entries_of}
use Rattle.estimates.specs.Estimates.{none, estimates}
use Rattle.sheet_load.specs.Opening.{nodes_of, is_table}
use Rattle.cutting.specs.Cut.{at, gaps}
use Rattle.widths.specs.Share.{shares}
use Rattle.answers.specs.declared.Way.TheVariants.{Sideways}
use Rattle.placement.specs.Place as place
use Rattle.placement.specs.Promise.{Promised}
use Rattle.placement.specs.Why.{later}
use Rattle.sheet_figures.specs.Figures.{rows_at, columns_at, boxes_at, sizes_at, leasts_at, way_at, widths_at, places_at}
use Rattle.causes.specs.Causes.{cause_at, cause_number}
use Rattle.causes.specs.declared.Cause.{Cause}
use Rattle.causes.specs.declared.Cause.TheVariants.{Shown, Empty, Little, Cut, Page}
use Rattle.sheet_figures.specs.Calls.{check_checks}

-- ---- what is spoken of

-- a line of an accepted sheet that is a table
pub record TableIn (s : List ℕ) (line : ℕ) : Type 0 where
  pub accepted : verdict_of (check_checks s) ≡ (Ok tt)
  pub table : is_table (nodes_of s) line ≡ true

-- settings in their ranges; a table inside another may get a width past the page's limit
pub record Allowed (wrap raw width : ℕ) : Type 0 where
  pub wrap_small : wrap ≤ max_wrap
  pub raw_small : raw ≤ 1
  pub width_small : width ≤ max_size

-- how many entries the table has; entry k: the line of its cell, 0 for a filler; its first column, its span, its size and least width; and
-- the width with which it is printed, 0 if it is missing
abbrev pub entry_total : List ℕ → ℕ → ℕ
entry_total s line = length (entries_of (rows_at s line))

abbrev pub cell_at : List ℕ → ℕ → ℕ → ℕ
cell_at s line k = at (map shown_line (entries_of (rows_at s line))) k

abbrev pub entry_at : List ℕ → ℕ → ℕ → ℕ → Box
entry_at s line wrap k = get_or (flat (boxes_at s line wrap)) k (box 0 0 0 0)

abbrev pub printed_at : List ℕ → ℕ → ℕ → ℕ → ℕ → ℕ → ℕ
printed_at s line wrap raw width k = (get_or (places_at s line wrap raw width) k (place.at 0 0)).width

-- column j is one of the entry's
abbrev pub Over : Box → ℕ → Type 0
Over b j = (b.first ≤ j) × (j < b.first + b.span)

-- the cause of column j
abbrev pub column_cause : List ℕ → ℕ → ℕ → ℕ → ℕ → ℕ → Cause
column_cause s line wrap raw width j = cause_at (sizes_at s line wrap) (leasts_at s line wrap) (widths_at s line wrap raw width) width j

-- the line at place i stands in the line at place c, and no table stands between (place k holds line k + 1)
pub data Inside (ks : List NodeRecord) (c : ℕ) : ℕ → Type 0 where
  itself : Inside ks c c
  below : (p i : ℕ) → Inside ks c p → (kind_number (get_or ks p no_node).kind ≡ table_kind → ⊥) → Parent ks p i → Inside ks c i

-- ---- what holds

-- the third demand, with what holds down the page, of every table of an accepted sheet
abbrev pub ThirdDemand : Type 0
ThirdDemand = (s : List ℕ) (line wrap raw width : ℕ) → TableIn s line → Allowed wrap raw width →
    Promised (columns_at s line) (boxes_at s line wrap) raw width (way_at s line wrap raw width) (widths_at s line wrap raw width)

-- (a) an entry is missing exactly if each of its columns has a cause
pub record Exactly (s : List ℕ) (line wrap raw width k : ℕ) : Type 0 where
  pub only : printed_at s line wrap raw width k ≡ 0 → (j : ℕ) → Over (entry_at s line wrap k) j → 0 < cause_number (column_cause s line wrap raw width j)
  pub then : ((j : ℕ) → Over (entry_at s line wrap k) j → 0 < cause_number (column_cause s line wrap raw width j)) → printed_at s line wrap raw width k ≡ 0

abbrev pub MissingExactly : Type 0
MissingExactly = (s : List ℕ) (line wrap raw width : ℕ) → TableIn s line → Allowed wrap raw width →
    (k : ℕ) → k < entry_total s line → Exactly s line wrap raw width k

-- (b) a cell whose least width is at least its span is never missing, at a width of at least 1
abbrev pub NeverMissing : Type 0
NeverMissing = (s : List ℕ) (line wrap raw width : ℕ) → TableIn s line → Allowed wrap raw width → 1 ≤ width →
    (k : ℕ) → k < entry_total s line → (entry_at s line wrap k).span ≤ (entry_at s line wrap k).least → 0 < printed_at s line wrap raw width k

-- (c) nor is a cell in which a line with text stands whose size is at least the cell's span, if wrap is so too; nor one with a link, up to
-- the span 5
abbrev pub TextKeeps : Type 0
TextKeeps = (s : List ℕ) (line wrap raw width : ℕ) → TableIn s line → Allowed wrap raw width → 1 ≤ width →
    (k i : ℕ) → k < entry_total s line → 1 ≤ cell_at s line k → Inside (nodes_of s) (cell_at s line k - 1) i →
    has_text (get_or (nodes_of s) i no_node).kind ≡ true →
    (entry_at s line wrap k).span ≤ (get_or (estimates wrap (nodes_of s)) i none).size → (entry_at s line wrap k).span ≤ wrap →
    0 < printed_at s line wrap raw width k

abbrev pub LinkKeeps : Type 0
LinkKeeps = (s : List ℕ) (line wrap raw width : ℕ) → TableIn s line → Allowed wrap raw width → 1 ≤ width →
    (k i : ℕ) → k < entry_total s line → 1 ≤ cell_at s line k → Inside (nodes_of s) (cell_at s line k - 1) i →
    kind_number (get_or (nodes_of s) i no_node).kind ≡ link_kind → (entry_at s line wrap k).span ≤ 5 → 0 < printed_at s line wrap raw width k

-- (d) the causes in a teacher's words: sideways, column j of this size and least width
abbrev pub Side : List ℕ → ℕ → ℕ → ℕ → ℕ → Type 0
Side s line wrap raw width = way_at s line wrap raw width ≡ Sideways

-- empty: its size is 0
abbrev pub IsEmpty : List ℕ → ℕ → ℕ → ℕ → Type 0
IsEmpty s line wrap j = at (sizes_at s line wrap) j ≡ 0

-- little: it is not empty, its least width is 0, and its size times the width is below the total size of all columns
abbrev pub IsLittle : List ℕ → ℕ → ℕ → ℕ → ℕ → Type 0
IsLittle s line wrap width j =
    (0 < at (sizes_at s line wrap) j) × (at (leasts_at s line wrap) j ≡ 0) × (at (sizes_at s line wrap) j * width < sum (sizes_at s line wrap))

-- cut away: neither, its least width is 0, and the width holds no more than the gaps, the least widths, and a character for each later column
-- that has a share and no least width
abbrev pub IsCut : List ℕ → ℕ → ℕ → ℕ → ℕ → Type 0
IsCut s line wrap width j =
    (0 < at (sizes_at s line wrap) j) × (at (leasts_at s line wrap) j ≡ 0) × (sum (sizes_at s line wrap) ≤ at (sizes_at s line wrap) j * width)
    × (width ≤ sum (leasts_at s line wrap) + later (leasts_at s line wrap) (shares (sizes_at s line wrap) (leasts_at s line wrap) width) j + gaps (columns_at s line))

pub record Means (s : List ℕ) (line wrap raw width j : ℕ) : Type 0 where
  pub shown_only : column_cause s line wrap raw width j ≡ Shown → 0 < at (widths_at s line wrap raw width) j
  pub shown_then : 0 < at (widths_at s line wrap raw width) j → column_cause s line wrap raw width j ≡ Shown
  pub page_only : column_cause s line wrap raw width j ≡ Page → width ≡ 0
  pub page_then : width ≡ 0 → column_cause s line wrap raw width j ≡ Page
  pub empty_only : column_cause s line wrap raw width j ≡ Empty → Side s line wrap raw width × IsEmpty s line wrap j
  pub empty_then : Side s line wrap raw width → IsEmpty s line wrap j → column_cause s line wrap raw width j ≡ Empty
  pub little_only : column_cause s line wrap raw width j ≡ Little → Side s line wrap raw width × IsLittle s line wrap width j
  pub little_then : Side s line wrap raw width → IsLittle s line wrap width j → column_cause s line wrap raw width j ≡ Little
  pub cut_only : column_cause s line wrap raw width j ≡ Cut → Side s line wrap raw width × IsCut s line wrap width j
  pub cut_then : Side s line wrap raw width → IsCut s line wrap width j → column_cause s line wrap raw width j ≡ Cut

abbrev pub CausesMean : Type 0
CausesMean = (s : List ℕ) (line wrap raw width : ℕ) → TableIn s line → Allowed wrap raw width → (j : ℕ) → j < columns_at s line → Means s line wrap raw width j

-- (e) a cell is one entry alone: where it is missing, it stands nowhere, and what stands in it is lost with it; a filler has nothing of its own
abbrev pub LostOnce : Type 0
LostOnce = (s : List ℕ) (line k l : ℕ) → TableIn s line → k < entry_total s line → l < entry_total s line → 1 ≤ cell_at s line k → cell_at s line k ≡ cell_at s line l → k ≡ l

abbrev pub FillersEmpty : Type 0
FillersEmpty = (s : List ℕ) (line wrap k : ℕ) → TableIn s line → k < entry_total s line → cell_at s line k ≡ 0 →
    ((entry_at s line wrap k).size ≡ 0) × ((entry_at s line wrap k).least ≡ 0)
