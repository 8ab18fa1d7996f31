-- The causes and the missing entries of one table.
use Rattle.std.specs.Prelude.{◌≡◌, List, ℕ, ◌≤◌, length, take}
use Rattle.common.specs.Limits.{max_position, max_entries}
use Rattle.text.specs.declared.Estimate.{Estimate}
use Rattle.records.specs.declared.Entry.{Entry}
use Rattle.widths.specs.Widths.{way_of, final_widths}
use Rattle.placement.specs.inner.Rows.{bare_boxes}
use Rattle.column_sizes.specs.inner.Sizing.{sizes_in, leasts_in}
use Rattle.column_sizes.specs.inner.Capacity.{Entered}
use Rattle.causes.specs.Causes.{causes}
use Rattle.causes.specs.inner.Hidden.{hidden_from}

-- the final widths of c columns, and the numbers of their causes
abbrev pub finals_in : List Entry → List Estimate → (c raw width : ℕ) → List ℕ
finals_in es figures c raw width = final_widths (way_of raw width (leasts_in es figures c)) (sizes_in es figures c) (leasts_in es figures c) width

unfoldable pub causes_in : List Entry → List Estimate → (c raw width : ℕ) → List ℕ
causes_in es figures c raw width = causes (sizes_in es figures c) (leasts_in es figures c) (finals_in es figures c raw width) width

-- a table's entries, whole in c columns, and places for those that are missing
pub record ExplainPre (es : List Entry) (figures : List Estimate) (c : ℕ) (entry : List ℕ) : Type 0 where
  pub entries_few : length es ≤ max_entries
  pub columns_few : c ≤ max_position
  pub entry_in : length es ≤ length entry
  pub entered : Entered es figures c

-- the hidden ones of the entries, by the causes
abbrev pub hidden_in : List Entry → List Estimate → (c raw width : ℕ) → List ℕ
hidden_in es figures c raw width = hidden_from 0 (bare_boxes es) (causes_in es figures c raw width)

-- the causes, and the hidden ones in the first places
pub record ExplainPost (es : List Entry) (figures : List Estimate) (c raw width r : ℕ) (entry cause : List ℕ) : Type 0 where
  pub causes : cause ≡ causes_in es figures c raw width
  pub count : r ≡ length (hidden_in es figures c raw width)
  pub entries : take r entry ≡ hidden_in es figures c raw width
